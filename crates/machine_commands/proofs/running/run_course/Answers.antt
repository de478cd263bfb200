use Rattle.std.proofs.Common.{rules, ◌≡◌}
use Rattle.std.specs.Io.KnownBytes.{Appends}
use Rattle.streams.specs.Bytes.{AppendsFront}
use Rattle.peripherals.specs.World.{view, profile_of}
use Rattle.machine_commands.specs.Course.{ends_at_halt, events_in}
use Rattle.machine_commands.specs.Running.{fresh}
use Rattle.wordset.specs.Lanes.{words}
use Rattle.machine_commands.specs.Summary.{closing}
use Rattle.machine_commands.proofs.RunLemmas.{run_front, run_whole, trace_front, trace_refused, trace_whole}
use Rattle.machine_commands.proofs.FollowLemmas.{into_line_front, of_fault}
use Rattle.machine_commands.proofs.running.run_course.Goals as goal

pub returns-in_err-ran-clause-front : goal.returns-in_err-ran-clause-front
returns-in_err-ran-clause-front g c = λ marked.
    let profile : profile_of c.load-world.result ≡ c.args.options.profile = c.load-world.ensures.profile in
    let begins : view c.load-world.result ≡ fresh c.args.image.now c.args.options.start = search rules in
    trace_front c.args.options c.args.stopped (ends_at_halt c.args.course.now) (events_in c.args.course.now) c.args.image.now _ (view c.load-world.result) _ _ profile begins (c.follow.ensures.asked marked) (into_line_front _ _ _ _ _ _ _ (c.follow.ensures.broke marked))

pub returns-in_err-put-clause-front : goal.returns-in_err-put-clause-front
returns-in_err-put-clause-front g c = λ marked.
    let profile : profile_of c.load-world.result ≡ c.args.options.profile = c.load-world.ensures.profile in
    let begins : view c.load-world.result ≡ fresh c.args.image.now c.args.options.start = search rules in
    let front : AppendsFront (g.W.ByteSink.taken c.follow.new.out) (g.W.ByteSink.taken c.put.new.sink) (closing (words c.args.options.show) c.told-outcome.result.end (view c.follow.new.world) c.told-outcome.result.steps) = search rules in
    run_front c.args.options c.args.stopped (ends_at_halt c.args.course.now) (events_in c.args.course.now) c.args.image.now _ (view c.load-world.result) (view c.follow.new.world) c.in_ok-ran.ran c.told-outcome.result _ _ _ profile begins c.in_ok-ran.ensures.ran c.told-outcome.ensures.steps c.told-outcome.ensures.end front

pub returns-clause-run : goal.returns-clause-run
returns-clause-run g c =
    let profile : profile_of c.load-world.result ≡ c.args.options.profile = c.load-world.ensures.profile in
    let begins : view c.load-world.result ≡ fresh c.args.image.now c.args.options.start = search rules in
    let written : Appends (g.W.ByteSink.taken c.follow.new.out) (g.W.ByteSink.taken c.put.new.sink) (closing (words c.args.options.show) c.told-outcome.result.end (view c.follow.new.world) c.told-outcome.result.steps) = search rules in
    run_whole c.args.options c.args.stopped (ends_at_halt c.args.course.now) (events_in c.args.course.now) c.args.image.now _ (view c.load-world.result) (view c.follow.new.world) c.in_ok-ran.ran c.told-outcome.result c.status_of.result _ _ _ profile begins c.in_ok-ran.ensures.ran c.told-outcome.ensures.steps c.told-outcome.ensures.end written c.status_of.ensures

pub returns-in_err-ran-clause-traced : goal.returns-in_err-ran-clause-traced
returns-in_err-ran-clause-traced g c = of_fault c.from_residual.result (λ unmarked asked.
    let profile : profile_of c.load-world.result ≡ c.args.options.profile = c.load-world.ensures.profile in
    let begins : view c.load-world.result ≡ fresh c.args.image.now c.args.options.start = search rules in
    trace_refused c.args.options (ends_at_halt c.args.course.now) (events_in c.args.course.now) c.args.image.now _ (view c.load-world.result) (view c.follow.new.world) _ _ profile begins asked (c.in_err-ran.ensures.refused unmarked))

pub returns-in_err-text-clause-traced : goal.returns-in_err-text-clause-traced
returns-in_err-text-clause-traced g c = of_fault c.from_residual-in_err-text.result (λ unmarked asked.
    let profile : profile_of c.load-world.result ≡ c.args.options.profile = c.load-world.ensures.profile in
    let begins : view c.load-world.result ≡ fresh c.args.image.now c.args.options.start = search rules in
    trace_whole c.args.options (ends_at_halt c.args.course.now) (events_in c.args.course.now) c.args.image.now _ (view c.load-world.result) (view c.follow.new.world) c.in_ok-ran.ran _ _ profile begins asked c.in_ok-ran.ensures.ran)
