use Rattle.pal_acts.specs.Permanent.{permanent_symbols}
use Rattle.pal_asm.proofs.One.{told_so}
use Rattle.pal_asm.proofs.translation.translate_acts.Goals as goal

pub returns-in-Err-clause-refused : goal.returns-in-Err-clause-refused
returns-in-Err-clause-refused g c = rw c.fault_of.ensures (told_so (permanent_symbols c.args.profile) c.args.acts.now c.in-Err.refused c.in-Err.ensures.refused)
