use Rattle.std.proofs.Common.{rules, ◌≡◌, ◌≤◌, ◌<◌, ◌+◌, ◌∙◌, true, None, Some, length, arith}
use Rattle.peripherals.specs.World.{view}
use Rattle.declaration.specs.DeclarationInCode.{meaning}
use Rattle.machine_commands.specs.Running.{fresh}
use Rattle.machine_commands.specs.SessionParts.{steps_in}
use Rattle.machine_commands.specs.StoppedParts.{Passes}
use Rattle.machine_commands.specs.Stops.{stops_before}
use Rattle.machine_commands.proofs.DeclaredLemmas.{declared_here, declared_more, declared_never, steps_few}
use Rattle.machine_commands.proofs.declared_run.declared_stop_of.Goals as goal

pub returns-in_default : goal.returns-in_default
returns-in_default g c =
    let inv = c.loop-index.invariant in
    let d = meaning c.args.declaration.now in
    let events = c.args.events.now in
    let within : c.loop-index.index < length events = search rules in
    let none : c.visits_past.result ≡ None = search rules in
    let on : stops_before c.args.stops.now d.profile c.loop-index.visits (view c.loop-index.world) c.index-events-index.result ≡ true = rw (inv.profile, none) at c.visits_past.ensures.passes in
    declared_here c.args.stops.now d events (fresh c.args.image.now d.start) c.loop-index.index c.loop-index.visits c.index-events-index.result (view c.loop-index.world) inv.passed within c.index-events-index.is on

pub loop-index-preserved : goal.loop-index-preserved
loop-index-preserved g c =
    let inv = c.loop-index.invariant in
    let d = meaning c.args.declaration.now in
    let events = c.args.events.now in
    let within : c.loop-index.index < length events = search rules in
    let passes : Passes c.args.stops.now d.profile c.loop-index.visits (view c.loop-index.world) c.index-events-index.result (Some c.in-Some.more) = rw (inv.profile, c.in-Some.is) at c.visits_past.ensures.passes in
    let some : c.in-Some.more ≤ c.loop-index.visits + steps_in c.index-events-index.result = rw c.in-Some.is at c.visits_past.ensures.few in
    record {
      passed = declared_more c.args.stops.now d events (fresh c.args.image.now d.start) c.loop-index.index c.loop-index.visits c.in-Some.more c.index-events-index.result (view c.loop-index.world) (view c.happen.new.world) inv.passed within c.index-events-index.is passes c.in_ok-happen.ensures.happens;
      profile = c.happen.ensures.profile ∙ inv.profile;
      few = let was = inv.few in let one = steps_few c.index-events-index.result in omega (arith, was, some, one);
    }

pub returns : goal.returns
returns g c =
    let inv = c.loop-index.invariant in
    let d = meaning c.args.declaration.now in
    let past : length c.args.events.now ≤ c.loop-index.index = search rules in
    declared_never c.args.stops.now d c.args.events.now (fresh c.args.image.now d.start) c.loop-index.index c.loop-index.visits (view c.loop-index.world) inv.passed past
