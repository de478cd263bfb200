use Rattle.std.proofs.Common.{rules, ◌≡◌, ◌∙◌, None, refl, sym, true, false, true≢false, inl, inr}
use Rattle.std.proofs.lemmas.Result.{err_from_is_err_and}
use Rattle.std.specs.Io.KnownBytes.{Appends}
use Rattle.peripherals.specs.World.{view, profile_of}
use Rattle.wordset.specs.Lanes.{words}
use Rattle.machine_commands.specs.Running.{fresh}
use Rattle.machine_commands.specs.Session.{summary_where}
use Rattle.machine_commands.specs.Trace.{traced}
use Rattle.machine_commands.proofs.StoppedLemmas.{attended_to_stop, left_so}
use Rattle.machine_commands.proofs.session.run_reported.Goals as goal

pub returns-clause-run : goal.returns-clause-run
returns-clause-run g c =
    let profile : profile_of c.load-world.result ≡ c.args.options.profile = c.load-world.ensures.profile in
    let begins : view c.load-world.result ≡ fresh c.args.image.now c.args.options.start = search rules in
    let punched : Appends (g.P.ByteSink.taken c.args.out.now.punch) (g.P.ByteSink.taken c.put.new.sink) (view c.operate-ran.new.world).devices.punch.output = search rules in
    let written : Appends (g.W.ByteSink.taken c.operate-ran.new.report) (g.W.ByteSink.taken c.put-2.new.sink) (summary_where (words c.args.options.show) c.args.form c.leaving-outcome.result.end (view c.operate-ran.new.world) c.leaving-outcome.result.steps) = search rules in
    let done = left_so (g.S.Scheduler.brings c.args.schedule.now (profile_of c.load-world.result) (view c.load-world.result)) (g.S.OperatorPresence.left c.operate-ran.new.schedule) c.args.stops.now (profile_of c.load-world.result) c.args.options.trace (view c.load-world.result) c.in_ok-came.came c.leaving-outcome.result (view c.operate-ran.new.world) _ _ _ _ c.in_ok-came.ensures.ran c.leaving-outcome.ensures.steps (rw c.has_left.ensures at c.leaving-outcome.ensures.end) in
    attended_to_stop (g.S.Scheduler.brings c.args.schedule.now) c.args.options c.args.stops.now None c.args.form (g.S.OperatorPresence.left c.operate-ran.new.schedule) c.args.options.trace c.args.image.now _ (view c.load-world.result) (view c.operate-ran.new.world) c.leaving-outcome.result c.status_of.result (traced c.args.options.trace done.lines) _ _ _ _ _ _ _ _ _ profile begins done refl punched done.wrote written c.status_of.ensures

pub returns-in_err-put-clause-read_told : goal.returns-in_err-put-clause-read_told
returns-in_err-put-clause-read_told g c = λ yes. let failed : g.P.ByteSink.mark c.put.new.sink ≡ true = search rules in inr failed

pub returns-in_err-text-clause-read_told : goal.returns-in_err-text-clause-read_told
returns-in_err-text-clause-read_told g c = λ yes. absurd (true≢false (sym yes ∙ c.in_ok-came.ensures.reads))

pub returns-in_err-put-2-clause-read_told : goal.returns-in_err-put-2-clause-read_told
returns-in_err-put-2-clause-read_told g c = λ yes. absurd (true≢false (sym yes ∙ c.in_ok-came.ensures.reads))

pub returns-clause-read_told : goal.returns-clause-read_told
returns-clause-read_told g c = λ yes. absurd (true≢false (sym yes ∙ c.in_ok-came.ensures.reads))

pub returns-in_err-came-clause-read_told : goal.returns-in_err-came-clause-read_told
returns-in_err-came-clause-read_told g c = λ yes.
    let p = err_from_is_err_and c.from_residual-in_err-came.result c.from_residual-in_err-came.ensures.1 in
    inl (rw (p.1, p.2) (sym c.in_err-came.ensures.reads ∙ yes))
