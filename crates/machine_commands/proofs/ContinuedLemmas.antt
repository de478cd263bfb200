-- The events that come in a run that goes on at pauses, gathered one after the other.
use Rattle.std.proofs.Common.{ℕ, ◌≡◌, ◌∙◌, ◌+◌, ◌≤◌, Bool, true, false, not, refl, List, [], ◌∷◌, ◌++◌, ◌⊎◌, Option, Some, None, ap, suc, length, take, append-nil, append_assoc, arith}
use Rattle.std.proofs.lemmas.List.{take_all}
use Rattle.peripherals.specs.declared.Event.{Event}
use Rattle.peripherals.specs.declared.Event.TheVariants.{Continue}
use Rattle.peripherals.specs.declared.Seen.{Seen}
use Rattle.peripherals.specs.Devices.{WorldState}
use Rattle.peripherals.specs.Events.{Happens}
use Rattle.peripherals.specs.Operator.{Plan, due, left_after}
use Rattle.peripherals.specs.EventOutcomes.{seen_of}
use Rattle.declaration.specs.Declaration.{Declaration}
use Rattle.machine_commands.specs.Follows.{goes_on}
use Rattle.machine_commands.specs.Schedule.{Comes, Place, Whole, first_place, operating}
use Rattle.machine_commands.specs.Schedule as schedule
use Rattle.machine_commands.specs.Continued.{ComesOn, Over, Final, Pressed, Then, IsAtPause, press_of, presses}

-- The place of an operator with this plan, after this event.
abbrev pub place : Plan → Option Event → Place
place plan last = record { plan = plan; last = last }

-- a test that was turned round
pub not_back : (a b : Bool) → not a ≡ b → a ≡ not b
not_back true b is = rw (← is) refl
not_back false b is = rw (← is) refl

-- where CONTINUE is never pressed these are the events of a run with an operator
pub plain_comes : (d : Declaration) (n : ℕ) (s : Place) (w : WorldState) (es : List Event) → n ≡ 0 → ComesOn d n s w es → Comes operating d.profile Whole s w es
plain_comes d n s w es none (Over _ _ _ is) = schedule.Over s w is
plain_comes d n s w es none (Final _ _ _ x e is ends happens cannot) = schedule.Final s w e is ends
plain_comes d n s w es none (Pressed k _ _ m v e fs is ends happens pause goes on) = absurd (omega (arith, none))
plain_comes d n s w es none (Then _ _ _ m e fs is on happens rest) = schedule.Then s w m e fs is on happens (plain_comes d n (operating.after s w e) m fs none rest)

-- These events came, with so many presses left, and whatever comes further comes after them.
pub record GatheredOn (d : Declaration) (n left : ℕ) (plan now : Plan) (last : Option Event) (w x : WorldState) (events : List Event) : Type 0 where
  pub come : (rest : List Event) → ComesOn d left (place now last) x rest → ComesOn d n (first_place plan) w (events ++ rest)

pub on_none : (d : Declaration) (n : ℕ) (plan : Plan) (last : Option Event) (w : WorldState) → last ≡ None → GatheredOn d n n plan plan last w w []
on_none d n plan last w first = record { come = λ rest comes. rw first at comes }

pub on_more : (d : Declaration) (n left : ℕ) (plan now after : Plan) (last next : Option Event) (w x y : WorldState) (events : List Event) (e : Event) (what : Seen) →
    GatheredOn d n left plan now last w x events → due now x last ≡ Some e → after ≡ left_after e now → next ≡ Some e → Happens d.profile x e y → what ≡ seen_of d.profile x e → goes_on true what ≡ true →
    GatheredOn d n left plan after next w y (events ++ e ∷ [])
on_more d n left plan now after last next w x y events e what gathered is less new happens sees goes = record {
  come = λ rest comes.
      let on : goes_on true (seen_of d.profile x e) ≡ true = rw (← sees) goes in
      let from : ComesOn d left (place (left_after e now) (Some e)) y rest = rw (less, new) at comes in
      rw (append_assoc events (e ∷ []) rest) (gathered.come (e ∷ rest) (Then left (place now last) x y e rest is on happens from));
}

pub on_last : (d : Declaration) (n left : ℕ) (plan now : Plan) (last : Option Event) (w x y : WorldState) (events : List Event) (e : Event) (what : Seen) →
    GatheredOn d n left plan now last w x events → due now x last ≡ Some e → Happens d.profile x e y → what ≡ seen_of d.profile x e → goes_on true what ≡ false →
    (left ≡ 0) ⊎ (IsAtPause d y → ⊥) → ComesOn d n (first_place plan) w (events ++ e ∷ [])
on_last d n left plan now last w x y events e what gathered is happens sees ends cannot =
    let off : goes_on true (seen_of d.profile x e) ≡ false = rw (← sees) ends in
    gathered.come (e ∷ []) (Final left (place now last) x y e is off happens cannot)

pub on_pressed : (d : Declaration) (n left : ℕ) (plan now after : Plan) (last next : Option Event) (w x m y : WorldState) (events : List Event) (e : Event) (what : Seen) →
    GatheredOn d n (suc left) plan now last w x events → due now x last ≡ Some e → after ≡ left_after e now → next ≡ Some e → Happens d.profile x e m → what ≡ seen_of d.profile x e → goes_on true what ≡ false →
    IsAtPause d m → Happens d.profile m Continue y → GatheredOn d n left plan after next w y ((events ++ e ∷ []) ++ Continue ∷ [])
on_pressed d n left plan now after last next w x m y events e what gathered is less new happens sees ends pause goes = record {
  come = λ rest comes.
      let off : goes_on true (seen_of d.profile x e) ≡ false = rw (← sees) ends in
      let from : ComesOn d left (place (left_after e now) (Some e)) y rest = rw (less, new) at comes in
      rw (append_assoc (events ++ e ∷ []) (Continue ∷ []) rest, append_assoc events (e ∷ []) (Continue ∷ rest))
      (gathered.come (e ∷ Continue ∷ rest) (Pressed left (place now last) x m y e rest is off happens pause goes from));
}

pub on_all : (d : Declaration) (n left : ℕ) (plan now : Plan) (last : Option Event) (w x : WorldState) (events : List Event) →
    GatheredOn d n left plan now last w x events → due now x last ≡ None → ComesOn d n (first_place plan) w events
on_all d n left plan now last w x events gathered is = rw (append-nil events) at (gathered.come [] (Over left (place now last) x is))

-- one event more
pub presses_push : (es : List Event) (e : Event) → presses (es ++ e ∷ []) ≡ presses es + press_of e
presses_push [] e = omega arith
presses_push (x ∷ es) e = let rest : presses (es ++ e ∷ []) ≡ presses es + press_of e = presses_push es e in omega (arith, rest)

pub presses_more : (es : List Event) (i count more : ℕ) (e : Event) → take (i + 1) es ≡ take i es ++ e ∷ [] → count ≡ presses (take i es) → more ≡ press_of e → count + more ≡ presses (take (i + 1) es)
presses_more es i count more e grows is pressed =
    let last : presses (take (i + 1) es) ≡ presses (take i es) + press_of e = ap presses grows ∙ presses_push (take i es) e in
    omega (arith, is, pressed, last)

pub presses_all : (es : List Event) (i count : ℕ) → length es ≤ i → count ≡ presses (take i es) → count ≡ presses es
presses_all es i count past is = is ∙ ap presses (take_all i es past)
