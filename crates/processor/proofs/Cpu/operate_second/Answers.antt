use Rattle.std.proofs.Common.{arith, refl}
use Rattle.processor.specs.Steps.{state_of}
use Rattle.processor.proofs.StepLemmas.{group2_does}
use Rattle.processor.proofs.Cpu.operate_second.Goals as goal

pub returns-clause-does : goal.returns-clause-does
returns-clause-does c = group2_does c.args.self.now.profile (state_of c.args.self.now) _ c.args.word c.args.switches (omega arith) c.requires (rw (c.operate2-self.ensures, c.next_address-self.ensures, c.skips.ensures) refl)
