use Rattle.std.proofs.Common.{rules}
use Rattle.proposer.proofs.proposed.Goals as goal

pub returns-clause-fits : goal.returns-clause-fits
returns-clause-fits g c = record { start = search rules; profile = search rules; declared = search rules; text = c.requires.text; routines = c.requires.routines }
