use Rattle.std.proofs.Common.{sym, ◌∙◌, refl}
use Rattle.peripherals.proofs.StepLemmas.{no_operation}
use Rattle.peripherals.proofs.world.put_out_by.Goals as goal

pub returns-in_default-2-clause-printed : goal.returns-in_default-2-clause-printed
returns-in_default-2-clause-printed g c = rw ((no_operation c.args.word (sym c.in_default.is ∙ c.of.ensures.exact)).0) refl

pub returns-in_default-2-clause-punched : goal.returns-in_default-2-clause-punched
returns-in_default-2-clause-punched g c = rw ((no_operation c.args.word (sym c.in_default.is ∙ c.of.ensures.exact)).1) refl
