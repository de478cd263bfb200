use Rattle.std.proofs.Common.{rules, ◌≡◌}
use Rattle.wordset.specs.Lanes.{words}
use Rattle.declaration.specs.DeclarationInCode.{meaning}
use Rattle.peripherals.specs.Operator.{plan_of}
use Rattle.peripherals.specs.World.{view}
use Rattle.machine_commands.specs.Continued.{came_by}
use Rattle.machine_commands.specs.Running.{fresh}
use Rattle.machine_commands.specs.Session.{plan_for}
use Rattle.machine_commands.proofs.StoppedWatchLemmas.{plan_to_stop}
use Rattle.machine_commands.proofs.stopped_watch.watch_session_message_to_stop.Goals as goal

pub returns-clause-told : goal.returns-clause-told
returns-clause-told g c =
    let d = meaning c.args.declaration.now in
    let plan = plan_for c.args.options.now c.args.frames.now c.args.keys.now in
    let is : plan_of c.new-operator.result ≡ plan = search rules in
    let from : view c.load-world.result ≡ fresh c.args.image.now d.start = search rules in
    let come : came_by c.args.continues plan d (fresh c.args.image.now d.start) c.in_ok-events.events.items = rw (is, from) at c.in_ok-events.ensures.come in
    plan_to_stop c.args.continues plan c.args.telling.now.stops.now c.args.telling.now.last c.args.telling.now.explained (words c.args.telling.now.show.now) c.args.image.now d c.in_ok-events.events.items c.told_to_stop.result come (rw c.deref.ensures.value at c.told_to_stop.ensures.told)
