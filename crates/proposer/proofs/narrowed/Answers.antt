use Rattle.std.proofs.Common.{rules}
use Rattle.proposer.proofs.narrowed.Goals as goal

pub returns-clause-fits : goal.returns-clause-fits
returns-clause-fits g c = record { start = search rules; profile = search rules; declared = search rules; text = search rules; routines = search rules }
