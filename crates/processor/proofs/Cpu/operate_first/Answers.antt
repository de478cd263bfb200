use Rattle.std.proofs.Common.{refl}
use Rattle.processor.specs.Steps.{state_of}
use Rattle.processor.proofs.StepLemmas.{group1_does}
use Rattle.processor.proofs.Cpu.operate_first.Goals as goal

pub returns-clause-does : goal.returns-clause-does
returns-clause-does c = group1_does c.args.self.now.profile (state_of c.args.self.now) _ c.args.word c.requires (rw (c.operate1-ac.ensures, c.increment-self.ensures) refl)
