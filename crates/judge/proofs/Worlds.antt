-- Lists of events: wherever the run may go on, now or after a CONTINUE, the invariant holds.
use Rattle.std.proofs.Common.{◌≡◌, ℕ, Bool, true, false, Option, Some, None, List, [], ◌∷◌, refl, sym, ◌∙◌, subst, inl, inr}
use Rattle.std.specs.Prelude.{if◌then◌else◌}
use Rattle.std.proofs.lemmas.Bool.{true≢false}
use Rattle.instruct.specs.Instructions.{Meaning, Group2}
use Rattle.processor.specs.Cells.{Cells}
use Rattle.processor.specs.Machine.{instruction}
use Rattle.processor.specs.Steps.{halts_after}
use Rattle.processor.specs.Runs.{IsStart}
use Rattle.peripherals.specs.declared.Event.{Event}
use Rattle.peripherals.specs.declared.Event.TheVariants.{Step as Instruct, Key, PrinterDone, ReaderDone, PunchDone, Switches, Continue}
use Rattle.peripherals.specs.Devices.{WorldState}
use Rattle.declaration.specs.Declaration.{Declaration, IsDeclared}
use Rattle.policy.specs.Calls.{Calls}
use Rattle.policy.specs.Rules.{IsSupported}
use Rattle.policy.specs.Runs.{GoesOn, resumed, HappensDeclared, calls_running, calls_by, DeclaredEvents, IsSafeInEvents}
use Rattle.domain.specs.Laws.{IsBegun}
use Rattle.facts.proofs.StartedLemmas.{start_is_begun}
use Rattle.judge.specs.Landing.{Case, place_in}
use Rattle.judge.specs.Conditions.{IsValid}
use Rattle.judge.proofs.Induction.{Invariant, keeps}
use Rattle.judge.proofs.Legal.{legal, starts}

-- The machine runs, or stands at a pause.
abbrev pub MayGoOn : Declaration → Option ℕ → Type 0
MayGoOn d None = Unit {0}
MayGoOn d (Some at) = d.pause at ≡ true

goes_on : (d : Declaration) (m : Meaning) (pc : ℕ) (at : Option ℕ) → at ≡ (if halts_after m then Some pc else None) → MayGoOn d at → GoesOn d m pc
goes_on d (Group2 w) pc at e on = λ h.
    let halted : at ≡ Some pc = rw h at e in
    subst (λ x. MayGoOn d x) halted on
goes_on d _ pc at e on = tt

module _ (j : Case) (dd : IsDeclared j.declaration) (valid : IsValid j) (start : Cells) (begun : IsBegun j.image start) where
  abbrev pub Ready : WorldState → Calls → Type 0
  Ready w ks = MayGoOn j.declaration w.halted_at → Invariant j dd valid start begun w.state ks

  ready_step : (w x : WorldState) (e : Event) (ks : Calls) → Ready w ks → HappensDeclared j.declaration w e x → Ready x (calls_by j.declaration w e ks)
  ready_step w x Instruct ks ready hap = go w.halted_at refl
    where
      go : (o : Option ℕ) → w.halted_at ≡ o → Ready x (calls_running j.declaration w o ks)
      go (Some at) e = subst (λ y. Ready y ks) (sym (hap.halted at e)) ready
      go None e = λ on.
          let inv : Invariant j dd valid start begun w.state ks = ready (subst (λ o. MayGoOn j.declaration o) (sym e) tt) in
          elim (hap.runs e) [
            | inl s ↦ keeps j dd valid start begun w.state x.state _ ks inv (goes_on j.declaration (instruction j.declaration.profile w.state) w.state.pc x.halted_at s.halted_at on) s.step
            | inr u ↦ absurd (subst IsSupported u.0 (legal j dd valid start begun w.state ks inv).stays.supported)
          ]
  ready_step w x Continue ks ready hap = go w.halted_at refl hap
    where
      at_pause : (at : ℕ) (b : Bool) → j.declaration.pause at ≡ b → w.halted_at ≡ Some at → x ≡ record w { halted_at = if b then None else Some at } → Ready x ks
      at_pause at true p e q = subst (λ y. Ready y ks) (sym q) (λ on. ready (subst (λ o. MayGoOn j.declaration o) (sym e) p))
      at_pause at false p e q = subst (λ y. Ready y ks) (sym q) (λ on. absurd (true≢false (sym on ∙ p)))

      go : (o : Option ℕ) → w.halted_at ≡ o → x ≡ record w { halted_at = resumed j.declaration o } → Ready x ks
      go None e q = subst (λ y. Ready y ks) (sym q) (λ on. ready (subst (λ o. MayGoOn j.declaration o) (sym e) tt))
      go (Some at) e q = at_pause at (j.declaration.pause at) refl e q
  ready_step w x (Key byte) ks ready hap = subst (λ y. Ready y ks) (sym hap.1) ready
  ready_step w x PrinterDone ks ready hap = subst (λ y. Ready y ks) (sym hap) ready
  ready_step w x (ReaderDone byte) ks ready hap = subst (λ y. Ready y ks) (sym hap.1) ready
  ready_step w x PunchDone ks ready hap = subst (λ y. Ready y ks) (sym hap) ready
  ready_step w x (Switches word) ks ready hap = subst (λ y. Ready y ks) (sym hap.1) ready

  pub ready_all : (es : List Event) (w x : WorldState) (ks ls : Calls) → Ready w ks → DeclaredEvents j.declaration es w ks x ls → Ready x ls
  ready_all [] w x ks ls ready run = subst (λ l. Ready x l) run.1 (subst (λ y. Ready y ks) run.0 ready)
  ready_all (e ∷ es) w x ks ls ready run = ready_all es run.0 x (calls_by j.declaration w e ks) ls (ready_step w run.0 e ks ready run.1) run.2

pub events_are_safe : (j : Case) → IsDeclared j.declaration → IsValid j → IsSafeInEvents j.image j.declaration
events_are_safe j dd valid w x ls events load run running =
    let start : IsStart j.image j.declaration.start w.state = load.state in
    let begun : IsBegun j.image w.state.memory = start_is_begun (place_in j None) j.declaration.start w.state start in
    legal j dd valid w.state.memory begun x.state ls
    (ready_all j dd valid w.state.memory begun events w x [] ls (λ on. starts j dd valid w.state start) run (subst (λ o. MayGoOn j.declaration o) (sym running) tt))
