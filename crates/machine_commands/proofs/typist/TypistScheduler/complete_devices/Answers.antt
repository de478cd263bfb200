use Rattle.std.proofs.Common.{◌≡◌, Some, arith}
use Rattle.peripherals.specs.declared.Event.TheVariants.{Step}
use Rattle.peripherals.specs.World.{view}
use Rattle.machine_commands.specs.TypingParts.{source}
use Rattle.machine_commands.proofs.SessionLemmas.{step_was}
use Rattle.machine_commands.proofs.TypistLemmas.{types_complete}
use Rattle.machine_commands.proofs.typist.TypistScheduler.complete_devices.Goals as goal

pub returns-clause-brings : goal.returns-clause-brings
returns-clause-brings g c = λ p extent es comes.
    let t = c.args.self.now in
    let begins : t.last ≡ Some Step = step_was t.last c.requires.stepped in
    rw begins (types_complete t.options (view c.args.world.now) t.asked t.rounds (source (g.F.ByteSource.remaining t.reader) (g.F.ByteSource.ended t.reader)) (source (g.K.ByteSource.remaining t.keys) (g.K.ByteSource.ended t.keys)) p extent es comes)

pub returns-clause-left : goal.returns-clause-left
returns-clause-left g c = rw (step_was c.args.self.now.last c.requires.stepped) (omega arith)
