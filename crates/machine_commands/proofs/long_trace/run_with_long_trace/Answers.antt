use Rattle.machine_commands.specs.Course.{ends_at_halt, events_in}
use Rattle.machine_commands.proofs.LongTraceLemmas.{behind_some}
use Rattle.machine_commands.proofs.long_trace.run_with_long_trace.Goals as goal

pub returns-clause-run : goal.returns-clause-run
returns-clause-run g c =
    behind_some c.args.options.now c.args.stops.now (ends_at_halt c.args.course.now) (events_in c.args.course.now) c.args.image.now c.run_with_stops.result _ _ _ c.in_ok-put_lines.ensures.wrote c.run_with_stops.ensures.run
