use Rattle.std.proofs.Common.{Some, None}
use Rattle.std.proofs.lemmas.Result.{on_err_weaker}
use Rattle.machine_commands.specs.Course.{ends_at_halt, events_in}
use Rattle.machine_commands.proofs.StoppingLemmas.{ok_with_cut}
use Rattle.machine_commands.proofs.stopping.run_with_stops.Goals as goal

pub returns-in-None-clause-run : goal.returns-in-None-clause-run
returns-in-None-clause-run g c = rw c.in-None.is
    (ok_with_cut c.args.options.now c.args.stops.now None (ends_at_halt c.args.course.now) (events_in c.args.course.now) (events_in c.in_ok-cut.cut.course) c.in_ok-cut.cut.stopped c.args.image.now c.run_course.result _ _ c.in_ok-cut.ensures.cut (rw c.in_ok-cut.ensures.ends at c.run_course.ensures.run))

pub returns-in-None-clause-nothing : goal.returns-in-None-clause-nothing
returns-in-None-clause-nothing g c = rw c.in-None.is c.run_course.ensures.nothing

pub returns-in-Some-clause-run : goal.returns-in-Some-clause-run
returns-in-Some-clause-run g c = rw c.in-Some.is
    (ok_with_cut c.args.options.now c.args.stops.now (Some c.in-Some.most) (ends_at_halt c.args.course.now) (events_in c.args.course.now) (events_in c.in_ok-cut.cut.course) c.in_ok-cut.cut.stopped c.args.image.now c.run_with_last.result _ _ c.in_ok-cut.ensures.cut (rw c.in_ok-cut.ensures.ends at c.run_with_last.ensures.run))

pub returns-in-Some-clause-nothing : goal.returns-in-Some-clause-nothing
returns-in-Some-clause-nothing g c = rw c.in-Some.is (on_err_weaker c.run_with_last.result (λ same unmarked quiet. same unmarked) c.run_with_last.ensures.nothing)
