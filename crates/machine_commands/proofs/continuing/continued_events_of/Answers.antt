use Rattle.std.proofs.Common.{rules, ◌≡◌, ◌∙◌, Some, None, true, false, sym}
use Rattle.peripherals.specs.Events.{Happens}
use Rattle.peripherals.specs.Operator.{due, plan_of}
use Rattle.peripherals.specs.World.{view}
use Rattle.declaration.specs.DeclarationInCode.{meaning}
use Rattle.machine_commands.specs.ContinuedParts.{HasPressed, HasStayed}
use Rattle.machine_commands.specs.Follows.{goes_on}
use Rattle.machine_commands.proofs.SessionLemmas.{fewer}
use Rattle.machine_commands.proofs.ContinuedLemmas.{not_back, on_none, on_more, on_last, on_pressed, on_all}
use Rattle.machine_commands.proofs.continuing.continued_events_of.Goals as goal

pub loop-event-init : goal.loop-event-init
loop-event-init g c = record { gathered = rw c.new-events.ensures.items (on_none _ _ _ _ _ c.requires.first); profile = c.requires.profile }

pub returns : goal.returns
returns g c =
    let none : due (plan_of c.loop-event.operator) (view c.loop-event.world) c.loop-event.operator.last ≡ None = search rules in
    record { come = on_all (meaning c.args.declaration.now) _ _ _ _ _ _ (view c.loop-event.world) c.loop-event.events.items c.loop-event.invariant.gathered none }

pub returns-then-not-goes_on : goal.returns-then-not-goes_on
returns-then-not-goes_on g c =
    let d = meaning c.args.declaration.now in
    let inv = c.loop-event.invariant in
    let is : due (plan_of c.loop-event.operator) (view c.loop-event.world) c.loop-event.operator.last ≡ Some c.in-Some.event = sym c.next.ensures.due ∙ c.in-Some.is in
    let off : goes_on true c.in_ok-seen.seen ≡ false = not_back _ true (sym c.ends.ensures ∙ c.if-ends.true) in
    let happens : Happens d.profile (view c.loop-event.world) c.in-Some.event (view c.apply.new.self) = rw inv.profile at c.in_ok-seen.ensures.happens in
    let sees = rw inv.profile at c.in_ok-seen.ensures.seen in
    let stayed : HasStayed d c.loop-event.left _ (view c.apply.new.self) _ _ _ = rw c.if-not-goes_on.true at c.in_ok-goes_on.ensures.pressed in
    record {
      come = rw (stayed.kept, c.in_ok-keep.ensures) (on_last d _ c.loop-event.left _ _ _ _ (view c.loop-event.world) (view c.apply.new.self) c.loop-event.events.items c.in-Some.event c.in_ok-seen.seen inv.gathered is happens sees off stayed.cannot);
    }

pub loop-event-preserved-else-not-goes_on : goal.loop-event-preserved-else-not-goes_on
loop-event-preserved-else-not-goes_on g c =
    let d = meaning c.args.declaration.now in
    let inv = c.loop-event.invariant in
    let is : due (plan_of c.loop-event.operator) (view c.loop-event.world) c.loop-event.operator.last ≡ Some c.in-Some.event = sym c.next.ensures.due ∙ c.in-Some.is in
    let off : goes_on true c.in_ok-seen.seen ≡ false = not_back _ true (sym c.ends.ensures ∙ c.if-ends.true) in
    let happens : Happens d.profile (view c.loop-event.world) c.in-Some.event (view c.apply.new.self) = rw inv.profile at c.in_ok-seen.ensures.happens in
    let sees = rw inv.profile at c.in_ok-seen.ensures.seen in
    let pressed : HasPressed d c.loop-event.left _ (view c.apply.new.self) _ _ _ = rw c.if-not-goes_on.false at c.in_ok-goes_on.ensures.pressed in
    record {
      gathered = rw (pressed.kept, c.in_ok-keep.ensures) (on_pressed d _ _ _ _ _ _ _ _ (view c.loop-event.world) (view c.apply.new.self) _ c.loop-event.events.items c.in-Some.event c.in_ok-seen.seen (rw pressed.left_is at inv.gathered) is c.in-Some.ensures.left c.in-Some.ensures.last happens sees off pressed.at_pause pressed.happens);
      profile = c.press.ensures.profile ∙ c.apply.ensures.profile ∙ inv.profile;
    }

pub loop-event-preserved : goal.loop-event-preserved
loop-event-preserved g c =
    let d = meaning c.args.declaration.now in
    let inv = c.loop-event.invariant in
    let is : due (plan_of c.loop-event.operator) (view c.loop-event.world) c.loop-event.operator.last ≡ Some c.in-Some.event = sym c.next.ensures.due ∙ c.in-Some.is in
    let on : goes_on true c.in_ok-seen.seen ≡ true = not_back _ false (sym c.ends.ensures ∙ c.if-ends.false) in
    let happens : Happens d.profile (view c.loop-event.world) c.in-Some.event (view c.apply.new.self) = rw inv.profile at c.in_ok-seen.ensures.happens in
    let sees = rw inv.profile at c.in_ok-seen.ensures.seen in
    record {
      gathered = rw c.in_ok-keep.ensures (on_more d _ c.loop-event.left _ _ _ _ _ _ (view c.loop-event.world) (view c.apply.new.self) c.loop-event.events.items c.in-Some.event c.in_ok-seen.seen inv.gathered is c.in-Some.ensures.left c.in-Some.ensures.last happens sees on);
      profile = c.apply.ensures.profile ∙ inv.profile;
    }

pub loop-event-smaller : goal.loop-event-smaller
loop-event-smaller g c =
    let is : due (plan_of c.loop-event.operator) (view c.loop-event.world) c.loop-event.operator.last ≡ Some c.in-Some.event = sym c.next.ensures.due ∙ c.in-Some.is in
    fewer (plan_of c.loop-event.operator) (plan_of c.next.new.self) (view c.loop-event.world) c.loop-event.operator.last c.next.new.self.last c.in-Some.event is c.in-Some.ensures.left c.in-Some.ensures.last

pub loop-event-smaller-else-not-goes_on : goal.loop-event-smaller-else-not-goes_on
loop-event-smaller-else-not-goes_on g c =
    let is : due (plan_of c.loop-event.operator) (view c.loop-event.world) c.loop-event.operator.last ≡ Some c.in-Some.event = sym c.next.ensures.due ∙ c.in-Some.is in
    fewer (plan_of c.loop-event.operator) (plan_of c.next.new.self) (view c.loop-event.world) c.loop-event.operator.last c.next.new.self.last c.in-Some.event is c.in-Some.ensures.left c.in-Some.ensures.last
