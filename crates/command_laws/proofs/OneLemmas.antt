-- A list of events has at most one run, and so has the plan of an operator.
use Rattle.std.proofs.Common.{ℕ, ◌≡◌, ◌+◌, Bool, true, false, Option, Some, None, List, [], ◌∷◌, ◌++◌, refl, sym, ap, ◌∙◌, subst}
use Rattle.instruct.specs.declared.Profile.{Profile}
use Rattle.peripherals.specs.declared.Event.{Event}
use Rattle.peripherals.specs.declared.Seen.{Seen}
use Rattle.peripherals.specs.declared.Seen.TheVariants as seen
use Rattle.peripherals.specs.Devices.{WorldState}
use Rattle.peripherals.specs.Events.{Happens}
use Rattle.peripherals.specs.EventOutcomes.{seen_of}
use Rattle.peripherals.proofs.OneLemmas.{one_world}
use Rattle.machine_commands.specs.declared.follow.End.{End}
use Rattle.machine_commands.specs.declared.follow.End.TheVariants.{Unsupported}
use Rattle.wordset.specs.Lanes.{words}
use Rattle.command_parts.specs.declared.options.SummaryForm.{SummaryForm}
use Rattle.command_parts.specs.declared.options.RunOptions.{RunOptions}
use Rattle.machine_commands.specs.Follows.{Follows, Ended, Stuck, Stopped, Went, end_of, goes_on, counted}
use Rattle.command_laws.specs.Laws.{RunsAreOne, SessionsAreOne, TypedAreOne}
use Rattle.machine_commands.specs.Running.{fresh, status_of}
use Rattle.machine_commands.specs.Schedule.{Comes, Over, Due, Final, Then, Schedule, Whole, first_place, operating}
use Rattle.machine_commands.specs.Session.{IsHeld, printed_in, summary_where}
use Rattle.machine_commands.specs.Teletype.{run_of}
use Rattle.machine_commands.specs.Typing.{first_sitting, typing}
use Rattle.command_parts.specs.declared.status.Status.{Status}
use Rattle.machine_commands.specs.Summary.{closing}
use Rattle.machine_commands.specs.Trace.{trace_of, traced}

-- two runs are the same
record AreOne (lines lines' : List ℕ) (n n' : ℕ) (end end' : End) (x x' : WorldState) : Type 0 where
  same_lines : lines ≡ lines'
  same_steps : n ≡ n'
  same_end : end ≡ end'
  same_final : x ≡ x'

-- a run that goes on does not end here
not_on : (h : Bool) (what : Seen) (word : ℕ) → what ≡ seen.Unsupported word → goes_on h what ≡ true → ⊥
not_on h what word is on = let no : goes_on h what ≡ false = ap (goes_on h) is in cc

not_halted : (h : Bool) (what : Seen) → h ≡ true → what ≡ seen.Halted → goes_on h what ≡ true → ⊥
not_halted true what ends is on = let no : goes_on true what ≡ false = ap (goes_on true) is in cc
not_halted false what ends is on = cc

follows_one : (p : Profile) (h : Bool) (es : List Event) (w : WorldState) (lines lines' : List ℕ) (n n' : ℕ) (end end' : End) (x x' : WorldState) →
    Follows p h es w lines n end x → Follows p h es w lines' n' end' x' → AreOne lines lines' n n' end end' x x'
follows_one p h [] w lines lines' n n' end end' x x' (Ended _) (Ended _) = record { same_lines = refl; same_steps = refl; same_end = refl; same_final = refl }
follows_one p h (e ∷ es) w lines lines' n n' end end' x x' (Stuck _ _ _ _ word s a) (Stuck _ _ _ _ word' s' a') =
    let one : x ≡ x' = one_world p w e x x' a a' in
    record { same_lines = refl; same_steps = refl; same_end = ap (λ (y : WorldState). Unsupported y.state.pc) one; same_final = one }
follows_one p h (e ∷ es) w lines lines' n n' end end' x x' (Stuck _ _ _ _ word s a) (Stopped _ _ _ _ ends s' a') = absurd (let both : seen.Unsupported word ≡ seen.Halted = sym s ∙ s' in cc)
follows_one p h (e ∷ es) w lines lines' n n' end end' x x' (Stuck _ _ _ _ word s a) (Went _ _ _ m' _ what' ls' k' _ s' on' a' f') = absurd (not_on h what' word (sym s' ∙ s) on')
follows_one p h (e ∷ es) w lines lines' n n' end end' x x' (Stopped _ _ _ _ ends s a) (Stuck _ _ _ _ word s' a') = absurd (let both : seen.Unsupported word ≡ seen.Halted = sym s' ∙ s in cc)
follows_one p h (e ∷ es) w lines lines' n n' end end' x x' (Stopped _ _ _ _ ends s a) (Stopped _ _ _ _ ends' s' a') =
    let one : x ≡ x' = one_world p w e x x' a a' in
    record { same_lines = ap (λ (y : WorldState). trace_of p w e y) one; same_steps = refl; same_end = ap (λ (y : WorldState). end_of y) one; same_final = one }
follows_one p h (e ∷ es) w lines lines' n n' end end' x x' (Stopped _ _ _ _ ends s a) (Went _ _ _ m' _ what' ls' k' _ s' on' a' f') = absurd (not_halted h what' ends (sym s' ∙ s) on')
follows_one p h (e ∷ es) w lines lines' n n' end end' x x' (Went _ _ _ m _ what ls k _ s on a f) (Stuck _ _ _ _ word s' a') = absurd (not_on h what word (sym s ∙ s') on)
follows_one p h (e ∷ es) w lines lines' n n' end end' x x' (Went _ _ _ m _ what ls k _ s on a f) (Stopped _ _ _ _ ends s' a') = absurd (not_halted h what ends (sym s ∙ s') on)
follows_one p h (e ∷ es) w lines lines' n n' end end' x x' (Went _ _ _ m _ what ls k _ s on a f) (Went _ _ _ m' _ what' ls' k' _ s' on' a' f') =
    let one : m' ≡ m = one_world p w e m' m a' a in
    let same : what ≡ what' = sym s ∙ s' in
    let rest : AreOne ls ls' k k' end end' x x' = follows_one p h es m ls ls' k k' end end' x x' f (subst (λ (y : WorldState). Follows p h es y ls' k' end' x') one f') in
    record {
      same_lines = ap (λ (y : WorldState). trace_of p w e y ++ ls) (sym one) ∙ ap (λ (l : List ℕ). trace_of p w e m' ++ l) rest.same_lines;
      same_steps = ap (λ (y : Seen). counted y + k) same ∙ ap (λ (y : ℕ). counted what' + y) rest.same_steps;
      same_end = rest.same_end;
      same_final = rest.same_final;
    }

pub runs_are_one : RunsAreOne
runs_are_one options h events image text text' status status' a b =
    let one = follows_one options.profile h events (fresh image options.start) a.lines b.lines a.steps b.steps a.end b.end a.final b.final a.follows b.follows in (
      a.text_is ∙ (ap (λ (l : List ℕ). traced options.trace l ++ closing (words options.show) a.end a.final a.steps) one.same_lines ∙ (ap (λ (e : End). traced options.trace b.lines ++ closing (words options.show) e a.final a.steps) one.same_end
          ∙ (ap (λ (x : WorldState). traced options.trace b.lines ++ closing (words options.show) b.end x a.steps) one.same_final ∙ (ap (λ (n : ℕ). traced options.trace b.lines ++ closing (words options.show) b.end b.final n) one.same_steps ∙ sym b.text_is)))),
      a.status_is ∙ (ap status_of one.same_end ∙ sym b.status_is),
    )

-- ---- an operator's run

some_one : {e d : Event} → Some e ≡ Some d → e ≡ d
some_one is = cc

comes_one : {S : Type 0} (schedule : Schedule S) (p : Profile) (s : S) (w : WorldState) (es fs : List Event) → Comes schedule p Whole s w es → Comes schedule p Whole s w fs → es ≡ fs
comes_one schedule p s w es fs (Due _ _ is may) b = absurd may
comes_one schedule p s w es fs (Over _ _ none) (Due _ _ is' may) = absurd may
comes_one schedule p s w es fs (Final _ _ e is off) (Due _ _ is' may) = absurd may
comes_one schedule p s w es fs (Then _ _ m e more is on a f) (Due _ _ is' may) = absurd may
comes_one schedule p s w es fs (Over _ _ none) (Over _ _ none') = refl
comes_one schedule p s w es fs (Over _ _ none) (Final _ _ e due' off') = absurd (let both : None ≡ Some e = sym none ∙ due' in cc)
comes_one schedule p s w es fs (Over _ _ none) (Then _ _ m e more due' on' a' f') = absurd (let both : None ≡ Some e = sym none ∙ due' in cc)
comes_one schedule p s w es fs (Final _ _ e is off) (Over _ _ none') = absurd (let both : None ≡ Some e = sym none' ∙ is in cc)
comes_one schedule p s w es fs (Final _ _ e is off) (Final _ _ d is' off') = ap (λ (x : Event). x ∷ []) (some_one (sym is ∙ is'))
comes_one schedule p s w es fs (Final _ _ e is off) (Then _ _ m d more is' on' a' f') =
    let same : e ≡ d = some_one (sym is ∙ is') in
    let on : goes_on true (seen_of p w e) ≡ true = subst (λ (x : Event). goes_on true (seen_of p w x) ≡ true) (sym same) on' in
    absurd (cc)
comes_one schedule p s w es fs (Then _ _ m e more is on a f) (Over _ _ none') = absurd (let both : None ≡ Some e = sym none' ∙ is in cc)
comes_one schedule p s w es fs (Then _ _ m e more is on a f) (Final _ _ d is' off') =
    let same : e ≡ d = some_one (sym is ∙ is') in
    let on' : goes_on true (seen_of p w d) ≡ true = subst (λ (x : Event). goes_on true (seen_of p w x) ≡ true) same on in
    absurd (cc)
comes_one schedule p s w es fs (Then _ _ m e more is on a f) (Then _ _ m' d more' is' on' a' f') =
    let same : d ≡ e = some_one (sym is' ∙ is) in
    let here : Happens p w e m' = subst (λ (x : Event). Happens p w x m') same a' in
    let one : m' ≡ m = one_world p w e m' m here a in
    let after : Comes schedule p Whole (schedule.after s w e) m' more' = subst (λ (x : Event). Comes schedule p Whole (schedule.after s w x) m' more') same f' in
    let rest : more ≡ more' = comes_one schedule p (schedule.after s w e) m more more' f (subst (λ (y : WorldState). Comes schedule p Whole (schedule.after s w e) y more') one after) in
    ap (λ (l : List Event). e ∷ l) rest ∙ ap (λ (x : Event). x ∷ more') (sym same)

-- a session by a given schedule has at most one outcome
held_one : {S : Type 0} (schedule : Schedule S) (s : S) (options : RunOptions) (form : SummaryForm) (image : List (Option ℕ)) (text text' printed printed' punched punched' : List ℕ) (status status' : Status) →
    IsHeld (λ p w extent es. Comes schedule p extent s w es) options form image text printed punched status → IsHeld (λ p w extent es. Comes schedule p extent s w es) options form image text' printed' punched' status' →
    (text ≡ text') × (printed ≡ printed') × (punched ≡ punched') × (status ≡ status')
held_one schedule s options form image text text' printed printed' punched punched' status status' a b =
    let come : b.events ≡ a.events = comes_one schedule options.profile s (fresh image options.start) b.events a.events b.come a.come in
    let follows : Follows options.profile true a.events (fresh image options.start) b.lines b.steps b.end b.final =
    subst (λ (es : List Event). Follows options.profile true es (fresh image options.start) b.lines b.steps b.end b.final) come b.follows in
    let one = follows_one options.profile true a.events (fresh image options.start) a.lines b.lines a.steps b.steps a.end b.end a.final b.final a.follows follows in (
      a.text_is ∙ (ap (λ (l : List ℕ). traced options.trace l ++ summary_where (words options.show) form a.end a.final a.steps) one.same_lines ∙ (ap (λ (e : End). traced options.trace b.lines ++ summary_where (words options.show) form e a.final a.steps) one.same_end
          ∙ (ap (λ (x : WorldState). traced options.trace b.lines ++ summary_where (words options.show) form b.end x a.steps) one.same_final ∙ (ap (λ (n : ℕ). traced options.trace b.lines ++ summary_where (words options.show) form b.end b.final n) one.same_steps ∙ sym b.text_is)))),
      a.printed_is ∙ (ap (λ (x : WorldState). printed_in x) one.same_final ∙ sym b.printed_is),
      a.punched_is ∙ (ap (λ (x : WorldState). x.devices.punch.output) one.same_final ∙ sym b.punched_is),
      a.status_is ∙ (ap status_of one.same_end ∙ sym b.status_is),
    )

pub sessions_are_one : SessionsAreOne
sessions_are_one options form plan image text text' printed printed' punched punched' status status' a b =
    held_one operating (first_place plan) options form image text text' printed printed' punched punched' status status' a b

pub typed_are_one : TypedAreOne
typed_are_one options form frames bytes image text text' printed printed' punched punched' status status' a b =
    held_one typing (first_sitting options.switches options.manner frames bytes) (run_of options) form image text text' printed printed' punched punched' status status' a b
