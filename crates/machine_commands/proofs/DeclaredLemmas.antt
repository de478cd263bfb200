-- A declared run, event by event: its trace, and where it is stopped.
use Rattle.std.proofs.Common.{ℕ, zero, suc, ◌≡◌, ◌+◌, ◌<◌, ◌≤◌, Bool, true, false, if◌then◌else◌, List, [], ◌∷◌, ◌++◌, length, drop, get_or, refl, sym, ◌∙◌, ap, append_assoc, append-nil, add_assoc, add-zero, arith, true≢false, Option, Some, None}
use Rattle.std.specs.Prelude.{not, is_some}
use Rattle.std.proofs.lemmas.List.{drop_all, drop_more}
use Rattle.instruct.specs.declared.Profile.{Profile}
use Rattle.processor.specs.Machine.{State}
use Rattle.command_parts.specs.declared.options.Stops.{Stops}
use Rattle.declaration.specs.Declaration.{Declaration}
use Rattle.peripherals.specs.declared.Event.{Event}
use Rattle.peripherals.specs.declared.Event.TheVariants.{Step, Key, PrinterDone, ReaderDone, PunchDone, Switches, Continue}
use Rattle.peripherals.specs.declared.Seen.TheVariants as seen
use Rattle.peripherals.specs.Devices.{WorldState, word_at_pc}
use Rattle.peripherals.specs.EventOutcomes.{seen_of}
use Rattle.policy.specs.Runs.{HappensDeclared, resumed}
use Rattle.policy.specs.WatchedSteps.{waits}
use Rattle.machine_commands.specs.DeclaredRun.{Ended, Traces, Continues, Here, Later, NeverDeclared, Over, StopsDeclared, Went, is_continue}
use Rattle.machine_commands.specs.Follows.{counted}
use Rattle.machine_commands.specs.SessionParts.{steps_in}
use Rattle.machine_commands.specs.StoppedParts.{Passes}
use Rattle.machine_commands.specs.Stops.{stops_before, visits_with}
use Rattle.machine_commands.specs.Trace.{line_of, trace_of}

pub continue_is : (e : Event) → is_continue e ≡ true → e ≡ Continue
continue_is Step is = absurd (true≢false (sym is))
continue_is (Key byte) is = absurd (true≢false (sym is))
continue_is PrinterDone is = absurd (true≢false (sym is))
continue_is (ReaderDone byte) is = absurd (true≢false (sym is))
continue_is PunchDone is = absurd (true≢false (sym is))
continue_is (Switches word) is = absurd (true≢false (sym is))
continue_is Continue is = refl

halted_so : WorldState → Option ℕ → WorldState
halted_so w halted = record w { halted_at = halted }

still : (d : Declaration) (halted : Option ℕ) → waits d halted ≡ true → resumed d halted ≡ halted
still d None is = cc
still d (Some at) is = at_stop (d.pause at) at is
  where
    at_stop : (pause : Bool) (at : ℕ) → not pause ≡ true → (if pause then None else Some at) ≡ Some at
    at_stop true at is = cc
    at_stop false at is = refl

-- a CONTINUE at a stop changes nothing
pub waits_declared : (d : Declaration) (w : WorldState) (e : Event) → is_continue e ≡ true → waits d w.halted_at ≡ true → HappensDeclared d w e w
unfolding halted_so
waits_declared d w e is waiting =
    let same : w ≡ halted_so w (resumed d w.halted_at) = ap (halted_so w) (sym (still d w.halted_at waiting)) in
    rw (continue_is e is) same

unseen : (enabled : Bool) (p : Profile) (at word : ℕ) (s : State) → line_of p (if enabled then seen.Changed else seen.NotEnabled) at word s ≡ []
unseen true p at word s = refl
unseen false p at word s = refl

uncounted : (enabled : Bool) → counted (if enabled then seen.Changed else seen.NotEnabled) ≡ 0
uncounted true = refl
uncounted false = refl

-- and it has no line, and counts as no step
pub waits_line : (p : Profile) (w : WorldState) (e : Event) (lines : List ℕ) → is_continue e ≡ true → lines ≡ lines ++ trace_of p w e w
waits_line p w e lines is =
    let none : trace_of p w Continue w ≡ [] = unseen (is_some w.halted_at) p w.state.pc (word_at_pc w) w.state in
    rw (continue_is e is, none, append-nil lines) refl

pub waits_steps : (p : Profile) (w : WorldState) (e : Event) → is_continue e ≡ true → 0 ≡ counted (seen_of p w e)
waits_steps p w e is = rw (continue_is e is) (sym (uncounted (is_some w.halted_at)))

front_of : (es : List Event) (i : ℕ) (e : Event) → i < length es → e ≡ get_or es i e → drop i es ≡ e ∷ drop (i + 1) es
front_of es i e within is = drop_more es i e within ∙ ap (λ (x : Event). x ∷ drop (i + 1) es) (sym is)

-- So many of the events led to x, with these lines and so many instructions: whatever the others bring comes behind them.
pub record Gone (d : Declaration) (es : List Event) (w : WorldState) (i : ℕ) (lines : List ℕ) (n : ℕ) (x : WorldState) : Type 0 where
  pub more : (ls : List ℕ) (m : ℕ) (y : WorldState) → Traces d (drop i es) x ls m y → Traces d es w (lines ++ ls) (n + m) y

pub gone_more : (d : Declaration) (es : List Event) (w : WorldState) (i : ℕ) (lines new : List ℕ) (n k : ℕ) (e : Event) (x y : WorldState) →
    Gone d es w i lines n x → i < length es → e ≡ get_or es i e → HappensDeclared d x e y → new ≡ lines ++ trace_of d.profile x e y → k ≡ counted (seen_of d.profile x e) →
    Gone d es w (i + 1) new (n + k) y
gone_more d es w i lines new n k e x y gone within is happens line_is count_is = record {
  more = λ ls m z goes.
      let step : Traces d (drop i es) x (trace_of d.profile x e y ++ ls) (counted (seen_of d.profile x e) + m) z = rw (front_of es i e within is) (Went e (drop (i + 1) es) x y z ls m happens goes) in
      rw (line_is, count_is, append_assoc lines (trace_of d.profile x e y) ls, add_assoc n (counted (seen_of d.profile x e)) m)
      (gone.more (trace_of d.profile x e y ++ ls) (counted (seen_of d.profile x e) + m) z step);
}

pub gone_all : (d : Declaration) (es : List Event) (w : WorldState) (i : ℕ) (lines : List ℕ) (n : ℕ) (x : WorldState) → Gone d es w i lines n x → length es ≤ i → Traces d es w lines n x
gone_all d es w i lines n x gone past =
    let none : Traces d (drop i es) x [] 0 x = rw (drop_all i es past) (Ended x) in
    rw (append-nil lines, add-zero n) at (gone.more [] 0 x none)

-- So many of the events have passed: where the others stop, or never do, all of them do.
pub record PassedDeclared (stops : Stops) (d : Declaration) (es : List Event) (w : WorldState) (index visits : ℕ) (x : WorldState) : Type 0 where
  pub stop_later : (count : ℕ) → StopsDeclared stops d visits (drop index es) x count → StopsDeclared stops d 0 es w (index + count)
  pub never_later : NeverDeclared stops d visits (drop index es) x → NeverDeclared stops d 0 es w

pub declared_more : (stops : Stops) (d : Declaration) (es : List Event) (w : WorldState) (i visits more : ℕ) (e : Event) (x y : WorldState) →
    PassedDeclared stops d es w i visits x → i < length es → e ≡ get_or es i e → Passes stops d.profile visits x e (Some more) → HappensDeclared d x e y →
    PassedDeclared stops d es w (i + 1) more y
declared_more stops d es w i visits more e x y passed within is passes happens = record {
  stop_later = λ count stop.
      let here : StopsDeclared stops d (visits_with stops visits x e) (drop (i + 1) es) y count = rw passes.1 at stop in
      let later : StopsDeclared stops d visits (drop i es) x (suc count) = rw (front_of es i e within is) (Later visits count e (drop (i + 1) es) x y passes.0 happens here) in
      let same : i + suc count ≡ i + 1 + count = omega arith in
      rw same at (passed.stop_later (suc count) later);
  never_later = λ never.
      let here : NeverDeclared stops d (visits_with stops visits x e) (drop (i + 1) es) y = rw passes.1 at never in
      passed.never_later (rw (front_of es i e within is) (Continues visits e (drop (i + 1) es) x y passes.0 happens here));
}

pub declared_here : (stops : Stops) (d : Declaration) (es : List Event) (w : WorldState) (i visits : ℕ) (e : Event) (x : WorldState) →
    PassedDeclared stops d es w i visits x → i < length es → e ≡ get_or es i e → stops_before stops d.profile visits x e ≡ true → StopsDeclared stops d 0 es w i
declared_here stops d es w i visits e x passed within is on =
    let here : StopsDeclared stops d visits (drop i es) x zero = rw (front_of es i e within is) (Here visits e (drop (i + 1) es) x on) in
    rw (add-zero i) at (passed.stop_later zero here)

pub declared_never : (stops : Stops) (d : Declaration) (es : List Event) (w : WorldState) (i visits : ℕ) (x : WorldState) → PassedDeclared stops d es w i visits x → length es ≤ i → NeverDeclared stops d 0 es w
declared_never stops d es w i visits x passed past = passed.never_later (rw (drop_all i es past) (Over visits x))

pub steps_few : (e : Event) → steps_in e ≤ 1
steps_few Step = omega arith
steps_few (Key byte) = omega arith
steps_few PrinterDone = omega arith
steps_few (ReaderDone byte) = omega arith
steps_few PunchDone = omega arith
steps_few (Switches word) = omega arith
steps_few Continue = omega arith
