use Rattle.std.proofs.Common.{ap}
use Rattle.processor.specs.Machine.{State}
use Rattle.machine_commands.proofs.summary.memory_of.Goals as goal

pub returns : goal.returns
returns g c = ap (λ (s : State). s.memory) c.cpu.ensures.state
