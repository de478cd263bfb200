use Rattle.std.proofs.Common.{rules}
use Rattle.machine_commands.specs.Course.{ends_at_halt, events_in}
use Rattle.machine_commands.specs.Running.{fresh}
use Rattle.machine_commands.specs.Stops.{StopsAfter}
use Rattle.machine_commands.proofs.StoppingLemmas.{stop_step, stop_within}
use Rattle.machine_commands.proofs.stopping.cut_of.Goals as goal

pub first-requires-clause-within : goal.first-requires-clause-within
first-requires-clause-within g c =
    let stop : StopsAfter c.args.stops.now c.args.options.now.profile (ends_at_halt c.args.course.now) 0 (events_in c.args.course.now) (fresh c.args.image.now c.args.options.now.start) c.in-Ok-Some.count = search rules in
    stop_within _ _ _ _ _ _ _ stop

pub first-requires-clause-step : goal.first-requires-clause-step
first-requires-clause-step g c =
    let stop : StopsAfter c.args.stops.now c.args.options.now.profile (ends_at_halt c.args.course.now) 0 (events_in c.args.course.now) (fresh c.args.image.now c.args.options.now.start) c.in-Ok-Some.count = search rules in
    stop_step _ _ _ _ _ _ _ stop
