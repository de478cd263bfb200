use Rattle.std.proofs.Common.{rules, ◌≡◌, ◌+◌, ◌<◌, ◌≤◌, ◌∙◌, [], ◌∷◌, Some, None, true, false, refl, arith}
use Rattle.instruct.specs.declared.Profile.{Profile}
use Rattle.peripherals.specs.declared.Event.TheVariants.{Step}
use Rattle.peripherals.specs.declared.Seen.TheVariants.{NotEnabled, Changed, Ran, Halted, Unsupported}
use Rattle.peripherals.specs.World.{view, profile_of}
use Rattle.machine_commands.specs.Schedule.{Extent, ToStep}
use Rattle.machine_commands.specs.SessionParts.{IsNext, Played, steps_in}
use Rattle.machine_commands.specs.StoppedParts.{Passes}
use Rattle.machine_commands.specs.Stops.{stops_before}
use Rattle.machine_commands.proofs.SessionLemmas.{halted_is_step, or_left, or_right, ran_counts, ran_is_step}
use Rattle.machine_commands.proofs.StoppedLemmas.{un_all, un_completed, un_more, un_none, un_still, un_to_halt, un_to_stop, un_to_stuck}
use Rattle.machine_commands.proofs.session.operate.Goals as goal

pub loop-event-init : goal.loop-event-init
loop-event-init g c = record {
  un = un_none g.S.Scheduler.brings c.args.stops.now (profile_of c.args.world.now) c.args.trace c.args.schedule.now (view c.args.world.now) _ _ c.requires.unprinted;
  profile = refl;
  steps = omega arith;
  visits = omega arith;
  readable = c.requires.readable;
  unmarked = c.requires.writable;
  untyped = c.requires.typable;
}

pub overflow_add-steps : goal.overflow_add-steps
overflow_add-steps g c =
    let inv = c.loop-event.invariant in
    let p = profile_of c.args.world.now in
    let played : Played p c.args.trace (view c.loop-event.world) c.in-Some.event Ran (view c.apply_event.new.world) (g.W.ByteSink.taken c.loop-event.report) (g.W.ByteSink.taken c.apply_event.new.report) (g.T.ByteSink.taken c.loop-event.teletype) (g.T.ByteSink.taken c.apply_event.new.teletype) = rw (inv.profile, c.in-Ran.is) at c.in_ok-apply_event.ensures.played in
    let one : steps_in c.in-Some.event ≡ 1 = ran_counts p (view c.loop-event.world) c.in-Some.event played.sees in
    let taken : steps_in c.in-Some.event + g.S.Scheduler.steps_to_come c.next_event.new.self ≤ g.S.Scheduler.steps_to_come c.loop-event.schedule = rw c.in-Some.is at c.in_ok-event.ensures.steps in
    let few : g.S.Scheduler.steps_to_come c.args.schedule.now < 18446744073709551616 = c.requires.few in
    let was : c.loop-event.steps + g.S.Scheduler.steps_to_come c.loop-event.schedule ≤ g.S.Scheduler.steps_to_come c.args.schedule.now = inv.steps in
    let bound : c.loop-event.steps + 1 < 18446744073709551616 = omega (arith, one, taken, few, was) in
    record { fits = bound }

pub overflow_add-result : goal.overflow_add-result
overflow_add-result g c =
    let inv = c.loop-event.invariant in
    let p = profile_of c.args.world.now in
    let played : Played p c.args.trace (view c.loop-event.world) c.in-Some.event Halted (view c.apply_event.new.world) (g.W.ByteSink.taken c.loop-event.report) (g.W.ByteSink.taken c.apply_event.new.report) (g.T.ByteSink.taken c.loop-event.teletype) (g.T.ByteSink.taken c.apply_event.new.teletype) = rw (inv.profile, c.in-Halted.is) at c.in_ok-apply_event.ensures.played in
    let one : steps_in c.in-Some.event ≡ 1 = halted_is_step p (view c.loop-event.world) c.in-Some.event played.sees in
    let taken : steps_in c.in-Some.event + g.S.Scheduler.steps_to_come c.next_event.new.self ≤ g.S.Scheduler.steps_to_come c.loop-event.schedule = rw c.in-Some.is at c.in_ok-event.ensures.steps in
    let few : g.S.Scheduler.steps_to_come c.args.schedule.now < 18446744073709551616 = c.requires.few in
    let was : c.loop-event.steps + g.S.Scheduler.steps_to_come c.loop-event.schedule ≤ g.S.Scheduler.steps_to_come c.args.schedule.now = inv.steps in
    let bound : c.loop-event.steps + 1 < 18446744073709551616 = omega (arith, one, taken, few, was) in
    record { fits = bound }

pub complete_devices-requires : goal.complete_devices-requires
complete_devices-requires g c =
    let inv = c.loop-event.invariant in
    let p = profile_of c.args.world.now in
    let played : Played p c.args.trace (view c.loop-event.world) c.in-Some.event Ran (view c.apply_event.new.world) (g.W.ByteSink.taken c.loop-event.report) (g.W.ByteSink.taken c.apply_event.new.report) (g.T.ByteSink.taken c.loop-event.teletype) (g.T.ByteSink.taken c.apply_event.new.teletype) = rw (inv.profile, c.in-Ran.is) at c.in_ok-apply_event.ensures.played in
    let stepped : c.in-Some.event ≡ Step → g.S.Scheduler.stepped c.next_event.new.self ≡ true = rw c.in-Some.is at c.in_ok-event.ensures.stepped in
    record { stepped = stepped (ran_is_step p (view c.loop-event.world) c.in-Some.event played.sees) }

pub loop-event-preserved-in-Ran : goal.loop-event-preserved-in-Ran
loop-event-preserved-in-Ran g c =
    let inv = c.loop-event.invariant in
    let p = profile_of c.args.world.now in
    let next : IsNext g.S.Scheduler.brings c.loop-event.schedule c.next_event.new.self (view c.loop-event.world) c.in-Some.event = rw c.in-Some.is at c.in_ok-event.ensures.due in
    let played : Played p c.args.trace (view c.loop-event.world) c.in-Some.event Ran (view c.apply_event.new.world) (g.W.ByteSink.taken c.loop-event.report) (g.W.ByteSink.taken c.apply_event.new.report) (g.T.ByteSink.taken c.loop-event.teletype) (g.T.ByteSink.taken c.apply_event.new.teletype) = rw (inv.profile, c.in-Ran.is) at c.in_ok-apply_event.ensures.played in
    let passed : Passes c.args.stops.now p c.loop-event.visits (view c.loop-event.world) c.in-Some.event (Some c.in-Some-visits_past.more) = rw (inv.profile, c.in-Some-visits_past.is) at c.visits_past.ensures.passes in
    let ran = rw (← passed.1) at (un_more g.S.Scheduler.brings c.args.stops.now p c.args.trace c.args.schedule.now c.loop-event.schedule c.next_event.new.self c.in-Some.event (view c.args.world.now) (view c.loop-event.world) (view c.apply_event.new.world) c.loop-event.steps c.loop-event.visits Ran _ _ _ _ _ _ inv.un next played refl passed.0) in
    let more : c.in-Some-visits_past.more ≤ c.loop-event.visits + steps_in c.in-Some.event = rw c.in-Some-visits_past.is at c.visits_past.ensures.few in
    let count : c.loop-event.visits + g.S.Scheduler.steps_to_come c.loop-event.schedule ≤ g.S.Scheduler.steps_to_come c.args.schedule.now = inv.visits in
    let one : steps_in c.in-Some.event ≡ 1 = ran_counts p (view c.loop-event.world) c.in-Some.event played.sees in
    let taken : steps_in c.in-Some.event + g.S.Scheduler.steps_to_come c.next_event.new.self ≤ g.S.Scheduler.steps_to_come c.loop-event.schedule = rw c.in-Some.is at c.in_ok-event.ensures.steps in
    let same : g.S.Scheduler.steps_to_come c.complete_devices.new.self ≡ g.S.Scheduler.steps_to_come c.next_event.new.self = c.complete_devices.ensures.steps in
    let was : c.loop-event.steps + g.S.Scheduler.steps_to_come c.loop-event.schedule ≤ g.S.Scheduler.steps_to_come c.args.schedule.now = inv.steps in
    let unread : g.S.Scheduler.unread c.next_event.new.self ≡ false = c.in_ok-event.ensures.marks in
    record {
      un = rw c.complete_devices.ensures.done (un_completed g.S.Scheduler.brings c.args.stops.now p c.args.trace c.args.schedule.now c.next_event.new.self c.complete_devices.new.self (view c.args.world.now) (view c.apply_event.new.world) _ _ _ _ _ _ ran c.complete_devices.ensures.brings);
      profile = c.complete_devices.ensures.profile ∙ c.apply_event.ensures.profile ∙ inv.profile;
      steps = omega (arith, one, taken, same, was);
      visits = omega (arith, more, taken, same, count);
      readable = c.complete_devices.ensures.marks ∙ unread;
      unmarked = or_left _ _ c.in_ok-apply_event.ensures.marks;
      untyped = or_right _ _ c.in_ok-apply_event.ensures.marks;
    }

pub loop-event-preserved-in-NotEnabled : goal.loop-event-preserved-in-NotEnabled
loop-event-preserved-in-NotEnabled g c =
    let inv = c.loop-event.invariant in
    let p = profile_of c.args.world.now in
    let next : IsNext g.S.Scheduler.brings c.loop-event.schedule c.next_event.new.self (view c.loop-event.world) c.in-Some.event = rw c.in-Some.is at c.in_ok-event.ensures.due in
    let played : Played p c.args.trace (view c.loop-event.world) c.in-Some.event NotEnabled (view c.apply_event.new.world) (g.W.ByteSink.taken c.loop-event.report) (g.W.ByteSink.taken c.apply_event.new.report) (g.T.ByteSink.taken c.loop-event.teletype) (g.T.ByteSink.taken c.apply_event.new.teletype) = rw (inv.profile, c.in-NotEnabled.is) at c.in_ok-apply_event.ensures.played in
    let taken : steps_in c.in-Some.event + g.S.Scheduler.steps_to_come c.next_event.new.self ≤ g.S.Scheduler.steps_to_come c.loop-event.schedule = rw c.in-Some.is at c.in_ok-event.ensures.steps in
    let was : c.loop-event.steps + g.S.Scheduler.steps_to_come c.loop-event.schedule ≤ g.S.Scheduler.steps_to_come c.args.schedule.now = inv.steps in
    let unread : g.S.Scheduler.unread c.next_event.new.self ≡ false = c.in_ok-event.ensures.marks in
    let passed : Passes c.args.stops.now p c.loop-event.visits (view c.loop-event.world) c.in-Some.event (Some c.in-Some-visits_past.more) = rw (inv.profile, c.in-Some-visits_past.is) at c.visits_past.ensures.passes in
    let more : c.in-Some-visits_past.more ≤ c.loop-event.visits + steps_in c.in-Some.event = rw c.in-Some-visits_past.is at c.visits_past.ensures.few in
    let count : c.loop-event.visits + g.S.Scheduler.steps_to_come c.loop-event.schedule ≤ g.S.Scheduler.steps_to_come c.args.schedule.now = inv.visits in
    record {
      un = rw (← passed.1) at (un_still g.S.Scheduler.brings c.args.stops.now p c.args.trace c.args.schedule.now c.loop-event.schedule c.next_event.new.self c.in-Some.event (view c.args.world.now) (view c.loop-event.world) (view c.apply_event.new.world) c.loop-event.steps c.loop-event.visits NotEnabled _ _ _ _ _ _ inv.un next played refl refl passed.0);
      profile = c.apply_event.ensures.profile ∙ inv.profile;
      steps = omega (arith, taken, was);
      visits = omega (arith, more, taken, count);
      readable = unread;
      unmarked = or_left _ _ c.in_ok-apply_event.ensures.marks;
      untyped = or_right _ _ c.in_ok-apply_event.ensures.marks;
    }

pub loop-event-preserved : goal.loop-event-preserved
loop-event-preserved g c =
    let inv = c.loop-event.invariant in
    let p = profile_of c.args.world.now in
    let next : IsNext g.S.Scheduler.brings c.loop-event.schedule c.next_event.new.self (view c.loop-event.world) c.in-Some.event = rw c.in-Some.is at c.in_ok-event.ensures.due in
    let played : Played p c.args.trace (view c.loop-event.world) c.in-Some.event Changed (view c.apply_event.new.world) (g.W.ByteSink.taken c.loop-event.report) (g.W.ByteSink.taken c.apply_event.new.report) (g.T.ByteSink.taken c.loop-event.teletype) (g.T.ByteSink.taken c.apply_event.new.teletype) = rw (inv.profile, c.in-Changed.is) at c.in_ok-apply_event.ensures.played in
    let taken : steps_in c.in-Some.event + g.S.Scheduler.steps_to_come c.next_event.new.self ≤ g.S.Scheduler.steps_to_come c.loop-event.schedule = rw c.in-Some.is at c.in_ok-event.ensures.steps in
    let was : c.loop-event.steps + g.S.Scheduler.steps_to_come c.loop-event.schedule ≤ g.S.Scheduler.steps_to_come c.args.schedule.now = inv.steps in
    let unread : g.S.Scheduler.unread c.next_event.new.self ≡ false = c.in_ok-event.ensures.marks in
    let passed : Passes c.args.stops.now p c.loop-event.visits (view c.loop-event.world) c.in-Some.event (Some c.in-Some-visits_past.more) = rw (inv.profile, c.in-Some-visits_past.is) at c.visits_past.ensures.passes in
    let more : c.in-Some-visits_past.more ≤ c.loop-event.visits + steps_in c.in-Some.event = rw c.in-Some-visits_past.is at c.visits_past.ensures.few in
    let count : c.loop-event.visits + g.S.Scheduler.steps_to_come c.loop-event.schedule ≤ g.S.Scheduler.steps_to_come c.args.schedule.now = inv.visits in
    record {
      un = rw (← passed.1) at (un_still g.S.Scheduler.brings c.args.stops.now p c.args.trace c.args.schedule.now c.loop-event.schedule c.next_event.new.self c.in-Some.event (view c.args.world.now) (view c.loop-event.world) (view c.apply_event.new.world) c.loop-event.steps c.loop-event.visits Changed _ _ _ _ _ _ inv.un next played refl refl passed.0);
      profile = c.apply_event.ensures.profile ∙ inv.profile;
      steps = omega (arith, taken, was);
      visits = omega (arith, more, taken, count);
      readable = unread;
      unmarked = or_left _ _ c.in_ok-apply_event.ensures.marks;
      untyped = or_right _ _ c.in_ok-apply_event.ensures.marks;
    }

pub returns-in-Halted-clause-ran : goal.returns-in-Halted-clause-ran
returns-in-Halted-clause-ran g c =
    let inv = c.loop-event.invariant in
    let p = profile_of c.args.world.now in
    let next : IsNext g.S.Scheduler.brings c.loop-event.schedule c.next_event.new.self (view c.loop-event.world) c.in-Some.event = rw c.in-Some.is at c.in_ok-event.ensures.due in
    let played : Played p c.args.trace (view c.loop-event.world) c.in-Some.event Halted (view c.apply_event.new.world) (g.W.ByteSink.taken c.loop-event.report) (g.W.ByteSink.taken c.apply_event.new.report) (g.T.ByteSink.taken c.loop-event.teletype) (g.T.ByteSink.taken c.apply_event.new.teletype) = rw (inv.profile, c.in-Halted.is) at c.in_ok-apply_event.ensures.played in
    let passed : Passes c.args.stops.now p c.loop-event.visits (view c.loop-event.world) c.in-Some.event (Some c.in-Some-visits_past.more) = rw (inv.profile, c.in-Some-visits_past.is) at c.visits_past.ensures.passes in
    un_to_halt g.S.Scheduler.brings c.args.stops.now p c.args.trace c.args.schedule.now c.loop-event.schedule c.next_event.new.self c.in-Some.event (view c.args.world.now) (view c.loop-event.world) (view c.apply_event.new.world) c.loop-event.steps c.loop-event.visits _ _ _ _ _ _ _
    inv.un next played passed.0 refl c.end_of.ensures

pub returns-in-Unsupported-clause-ran : goal.returns-in-Unsupported-clause-ran
returns-in-Unsupported-clause-ran g c =
    let inv = c.loop-event.invariant in
    let p = profile_of c.args.world.now in
    let next : IsNext g.S.Scheduler.brings c.loop-event.schedule c.next_event.new.self (view c.loop-event.world) c.in-Some.event = rw c.in-Some.is at c.in_ok-event.ensures.due in
    let played : Played p c.args.trace (view c.loop-event.world) c.in-Some.event (Unsupported c.in-Unsupported.field-0) (view c.apply_event.new.world) (g.W.ByteSink.taken c.loop-event.report) (g.W.ByteSink.taken c.apply_event.new.report) (g.T.ByteSink.taken c.loop-event.teletype) (g.T.ByteSink.taken c.apply_event.new.teletype) = rw (inv.profile, c.in-Unsupported.is) at c.in_ok-apply_event.ensures.played in
    let passed : Passes c.args.stops.now p c.loop-event.visits (view c.loop-event.world) c.in-Some.event (Some c.in-Some-visits_past.more) = rw (inv.profile, c.in-Some-visits_past.is) at c.visits_past.ensures.passes in
    un_to_stuck g.S.Scheduler.brings c.args.stops.now p c.args.trace c.args.schedule.now c.loop-event.schedule c.next_event.new.self c.in-Some.event (view c.args.world.now) (view c.loop-event.world) (view c.apply_event.new.world) c.loop-event.steps c.loop-event.visits c.in-Unsupported.field-0 _ _ _ _ _ _ _
    inv.un next played passed.0 refl (search rules)

pub returns-clause-ran : goal.returns-clause-ran
returns-clause-ran g c =
    let inv = c.loop-event.invariant in
    let p = profile_of c.args.world.now in
    let over : (extent : Extent) → g.S.Scheduler.brings c.loop-event.schedule p (view c.loop-event.world) extent [] = λ extent. c.next_event.ensures.over (search rules) p extent in
    un_all g.S.Scheduler.brings c.args.stops.now p c.args.trace c.args.schedule.now c.loop-event.schedule (view c.args.world.now) (view c.loop-event.world) c.loop-event.visits _ _ _ _ _ inv.un over (search rules)

pub visits_past-requires : goal.visits_past-requires
visits_past-requires g c =
    let inv = c.loop-event.invariant in
    let taken : steps_in c.in-Some.event + g.S.Scheduler.steps_to_come c.next_event.new.self ≤ g.S.Scheduler.steps_to_come c.loop-event.schedule = rw c.in-Some.is at c.in_ok-event.ensures.steps in
    let few : g.S.Scheduler.steps_to_come c.args.schedule.now < 18446744073709551616 = c.requires.few in
    let count : c.loop-event.visits + g.S.Scheduler.steps_to_come c.loop-event.schedule ≤ g.S.Scheduler.steps_to_come c.args.schedule.now = inv.visits in
    omega (arith, taken, few, count)

pub returns-in_default-visits_past-clause-ran : goal.returns-in_default-visits_past-clause-ran
returns-in_default-visits_past-clause-ran g c =
    let inv = c.loop-event.invariant in
    let p = profile_of c.args.world.now in
    let due : c.in-Some.event ≡ Step → (q : Profile) → g.S.Scheduler.brings c.loop-event.schedule q (view c.loop-event.world) ToStep (Step ∷ []) = rw c.in-Some.is at c.in_ok-event.ensures.to_step in
    let none : c.visits_past.result ≡ None = search rules in
    let on : stops_before c.args.stops.now p c.loop-event.visits (view c.loop-event.world) c.in-Some.event ≡ true = rw (inv.profile, none) at c.visits_past.ensures.passes in
    un_to_stop g.S.Scheduler.brings c.args.stops.now p c.args.trace c.args.schedule.now c.loop-event.schedule c.next_event.new.self c.in-Some.event (view c.args.world.now) (view c.loop-event.world) c.loop-event.steps c.loop-event.visits _ _ _ _ _ inv.un due on refl (search rules)
