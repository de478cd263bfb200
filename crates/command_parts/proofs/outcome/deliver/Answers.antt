use Rattle.command_parts.proofs.AnswerLemmas.{nothing_written}
use Rattle.command_parts.proofs.outcome.deliver.Goals as goal

pub returns-in-Err-clause-writes : goal.returns-in-Err-clause-writes
returns-in-Err-clause-writes g c = nothing_written c.in-Err.fault c.requires.writable (rw c.in-Err.is at c.requires.unwritten)
