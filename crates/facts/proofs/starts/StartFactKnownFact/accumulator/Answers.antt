use Rattle.std.proofs.Common.{refl}
use Rattle.facts.proofs.starts.StartFactKnownFact.accumulator.Goals as goal

pub returns-in-Accumulator : goal.returns-in-Accumulator
returns-in-Accumulator c = rw c.in-Accumulator.is refl

pub returns-in-Cell : goal.returns-in-Cell
returns-in-Cell c = rw c.in-Cell.is c.args.self.now.every_word
