use Rattle.std.proofs.Common.{refl}
use Rattle.processor.specs.Steps.{state_of}
use Rattle.processor.proofs.StepLemmas.{group3_does}
use Rattle.processor.proofs.Cpu.operate_third.Goals as goal

pub returns-clause-does : goal.returns-clause-does
returns-clause-does c = group3_does c.args.self.now.profile (state_of c.args.self.now) _ c.args.word c.requires (rw (c.operate3-ac.ensures, c.increment-self.ensures) refl)
