use Rattle.std.proofs.Common.{rules, ◌≡◌, ◌≤◌, ◌<◌, ◌∙◌, true, false, length, refl, sym, arith}
use Rattle.peripherals.specs.Events.{Happens}
use Rattle.peripherals.specs.EventOutcomes.{seen_of}
use Rattle.peripherals.specs.World.{view, profile_of}
use Rattle.machine_commands.specs.Course.{ends_at_halt, events_in}
use Rattle.machine_commands.specs.Follows.{goes_on}
use Rattle.machine_commands.specs.Stops.{stops_before}
use Rattle.machine_commands.proofs.StopLemmas.{ended_here, never_stopped, passed_more, passed_none, stopped_here}
use Rattle.machine_commands.proofs.stops.stop_in.Goals as goal

pub loop-index-init : goal.loop-index-init
loop-index-init g c = record { passed = passed_none c.args.stops.now (profile_of c.args.world.now) (ends_at_halt c.args.course.now) (events_in c.args.course.now) (view c.args.world.now); profile = refl; few = search rules }

pub returns-then-stops_before : goal.returns-then-stops_before
returns-then-stops_before g c =
    let inv = c.loop-index.invariant in
    let p = profile_of c.args.world.now in
    let es = events_in c.args.course.now in
    let within : c.loop-index.index < length es = search rules in
    let on : stops_before c.args.stops.now (profile_of c.loop-index.world) c.loop-index.visits (view c.loop-index.world) c.event-event.result ≡ true = sym c.stops_before.ensures ∙ c.if-stops_before.true in
    stopped_here c.args.stops.now p (ends_at_halt c.args.course.now) es (view c.args.world.now) c.loop-index.index c.loop-index.visits c.event-event.result (view c.loop-index.world) inv.passed within c.event-event.ensures (rw inv.profile at on)

pub returns-then-not-goes_on : goal.returns-then-not-goes_on
returns-then-not-goes_on g c =
    let inv = c.loop-index.invariant in
    let p = profile_of c.args.world.now in
    let es = events_in c.args.course.now in
    let within : c.loop-index.index < length es = search rules in
    let off : stops_before c.args.stops.now (profile_of c.loop-index.world) c.loop-index.visits (view c.loop-index.world) c.event-event.result ≡ false = sym c.stops_before.ensures ∙ c.if-stops_before.false in
    let sees : c.in_ok-seen.seen ≡ seen_of p (view c.loop-index.world) c.event-event.result = rw inv.profile at c.in_ok-seen.ensures.seen in
    let over : goes_on (ends_at_halt c.args.course.now) c.in_ok-seen.seen ≡ false = search rules in
    ended_here c.args.stops.now p (ends_at_halt c.args.course.now) es (view c.args.world.now) c.loop-index.index c.loop-index.visits c.event-event.result (view c.loop-index.world) inv.passed within c.event-event.ensures (rw inv.profile at off) (rw sees at over)

pub loop-index-preserved : goal.loop-index-preserved
loop-index-preserved g c =
    let inv = c.loop-index.invariant in
    let p = profile_of c.args.world.now in
    let es = events_in c.args.course.now in
    let within : c.loop-index.index < length es = search rules in
    let off : stops_before c.args.stops.now (profile_of c.loop-index.world) c.loop-index.visits (view c.loop-index.world) c.event-event.result ≡ false = sym c.stops_before.ensures ∙ c.if-stops_before.false in
    let sees : c.in_ok-seen.seen ≡ seen_of p (view c.loop-index.world) c.event-event.result = rw inv.profile at c.in_ok-seen.ensures.seen in
    let happens : Happens p (view c.loop-index.world) c.event-event.result (view c.apply.new.self) = rw inv.profile at c.in_ok-seen.ensures.happens in
    let on : goes_on (ends_at_halt c.args.course.now) c.in_ok-seen.seen ≡ true = search rules in
    record {
      passed = rw c.visits_with-visits.ensures.visits (passed_more c.args.stops.now p (ends_at_halt c.args.course.now) es (view c.args.world.now) c.loop-index.index c.loop-index.visits c.event-event.result (view c.loop-index.world) (view c.apply.new.self) inv.passed within c.event-event.ensures (rw inv.profile at off) (rw sees at on) happens);
      profile = c.apply.ensures.profile ∙ inv.profile;
      few = let was = inv.few in let more = c.visits_with-visits.ensures.few in omega (arith, was, more);
    }

pub returns : goal.returns
returns g c =
    let inv = c.loop-index.invariant in
    let past : length (events_in c.args.course.now) ≤ c.loop-index.index = search rules in
    never_stopped c.args.stops.now (profile_of c.args.world.now) (ends_at_halt c.args.course.now) (events_in c.args.course.now) (view c.args.world.now) c.loop-index.index c.loop-index.visits (view c.loop-index.world) inv.passed past
