use Rattle.std.proofs.Common.{rules, Some, ◌≡◌, ◌++◌}
use Rattle.std.specs.Io.KnownBytes.{Appends}
use Rattle.wordset.specs.Lanes.{words}
use Rattle.peripherals.specs.World.{view, profile_of}
use Rattle.machine_commands.specs.Course.{ends_at_halt, events_in}
use Rattle.machine_commands.specs.Follows.{Follows}
use Rattle.machine_commands.specs.Last.{last_lines}
use Rattle.machine_commands.specs.Running.{fresh}
use Rattle.machine_commands.specs.Summary.{closing}
use Rattle.machine_commands.proofs.RunLemmas.{told_whole}
use Rattle.machine_commands.proofs.stopping.run_with_last.Goals as goal

pub returns-clause-run : goal.returns-clause-run
returns-clause-run g c =
    let profile : profile_of c.load-world.result ≡ c.args.options.now.profile = c.load-world.ensures.profile in
    let begins : view c.load-world.result ≡ fresh c.args.image.now c.args.options.now.start = search rules in
    let written : Appends (g.W.ByteSink.taken c.args.out.now) (g.W.ByteSink.taken c.put.new.sink) (last_lines c.args.most c.in_ok-run.run'.lines.items ++ closing (words c.args.options.now.show) c.told-outcome.result.end (view c.traced_run.new.world) c.told-outcome.result.steps) = search rules in
    let ran : Follows (profile_of c.load-world.result) (ends_at_halt c.args.course.now) (events_in c.args.course.now) (view c.load-world.result) c.in_ok-run.run'.lines.items c.in_ok-run.run'.outcome.steps c.in_ok-run.run'.outcome.end (view c.traced_run.new.world) = search rules in
    told_whole c.args.options.now (Some c.args.most) c.args.stopped (ends_at_halt c.args.course.now) (events_in c.args.course.now) c.args.image.now _ (view c.load-world.result) (view c.traced_run.new.world) c.in_ok-run.run'.outcome c.told-outcome.result c.in_ok-run.run'.lines.items c.status_of.result _ _ profile begins ran c.told-outcome.ensures.steps c.told-outcome.ensures.end c.status_of.ensures written
