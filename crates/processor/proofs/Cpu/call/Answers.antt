use Rattle.std.proofs.Common.{refl}
use Rattle.processor.proofs.Cpu.call.Goals as goal

pub returns-clause-does : goal.returns-clause-does
returns-clause-does c = (refl, rw (c.set.ensures, c.step_pointer.ensures, c.increment-self.ensures, c.increment-back.ensures, c.requires) refl)
