use Rattle.std.proofs.Common.{ap}
use Rattle.processor.specs.Machine.{State}
use Rattle.processor.specs.Steps.{state_of}
use Rattle.peripherals.specs.World.{view}
use Rattle.machine_commands.proofs.TypistLemmas.{word_there}
use Rattle.machine_commands.proofs.typist.next_word.Goals as goal

pub returns : goal.returns
returns g c = word_there (view c.args.world.now) (state_of c.cpu-machine.result.now) c.cpu-machine.result.now.pc c.get.result c.cpu-machine.ensures.state (ap (λ (s : State). s.pc) c.cpu-machine.ensures.state) c.get.ensures
