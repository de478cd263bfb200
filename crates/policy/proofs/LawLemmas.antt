-- Runs and what is told of them are one, and a loaded program's code stays until another rule is broken.
use Rattle.std.proofs.Common.{ℕ, zero, suc, ◌≡◌, ◌<◌, inl, inr, Option, Some, None, List, [], ◌∷◌, refl, sym, ap, subst, arith}
use Rattle.std.specs.Prelude.{take, slice_get}
use Rattle.processor.specs.Machine.{State}
use Rattle.processor.specs.Runs.{Image}
use Rattle.peripherals.specs.declared.Event.{Event}
use Rattle.peripherals.specs.declared.Event.TheVariants.{Step as Instruct, Key, PrinterDone, ReaderDone, PunchDone, Switches, Continue}
use Rattle.peripherals.specs.Devices.{WorldState, answer_of}
use Rattle.peripherals.specs.Events.{Steps}
use Rattle.declaration.specs.Declaration.{Declaration, IsDeclared}
use Rattle.policy.specs.Calls.{Calls}
use Rattle.policy.specs.Laws.{RunIsOne, VerdictIsOne, CodeIsKept, StepsKeepCode}
use Rattle.policy.specs.Rules.{KeepsCode, IsLegal}
use Rattle.policy.specs.Runs.{HappensDeclared, DeclaredEvents, calls_by}
use Rattle.policy.specs.declared.watcher.Watched.TheVariants.{Clean, Broken}
use Rattle.policy.proofs.CodeLemmas.{declared_keeps, step_keeps}
use Rattle.policy.proofs.TellLemmas.{clean_tells, broken_tells}
use Rattle.policy.proofs.WatchLemmas.{run_one}

pub run_is_one : RunIsOne
run_is_one d events w x y a b = (run_one d events w [] x y a.0 b.0 a.1 b.1).0

pub verdict_is_one : VerdictIsOne
verdict_is_one image d events w Clean told a b = sym (clean_tells image d events w told b a)
verdict_is_one image d events w (Broken n r) told a b = sym (broken_tells image d events w told n r b a)

-- ---- the code

-- an instruction that is legal where it is tried keeps the code
steps_keep : (image : Image) (d : Declaration) → IsDeclared d → (w x : WorldState) (ks : Calls) (halted : Option ℕ) → w.halted_at ≡ halted → Steps d.profile w x
    → (w.halted_at ≡ None → IsLegal image d w.state ks) → KeepsCode image d w.state.memory → KeepsCode image d x.state.memory
steps_keep image d dd w x ks None is steps legal keeps = elim (steps.runs is) [
  | inl out ↦ step_keeps image d dd w.state x.state (answer_of d.profile w) ks (legal is) out.step
  | inr none ↦ subst (λ (v : WorldState). KeepsCode image d v.state.memory) (sym none.1) keeps
]
steps_keep image d dd w x ks (Some at) is steps legal keeps = subst (λ (v : WorldState). KeepsCode image d v.state.memory) (sym (steps.halted at is)) keeps

moved : (image : Image) (d : Declaration) (w x : WorldState) → x.state ≡ w.state → KeepsCode image d w.state.memory → KeepsCode image d x.state.memory
moved image d w x same keeps = subst (λ (s : State). KeepsCode image d s.memory) (sym same) keeps

happens_keep : (image : Image) (d : Declaration) → IsDeclared d → (w x : WorldState) (ks : Calls) (e : Event) → HappensDeclared d w e x
    → (e ≡ Instruct → w.halted_at ≡ None → IsLegal image d w.state ks) → KeepsCode image d w.state.memory → KeepsCode image d x.state.memory
happens_keep image d dd w x ks Instruct happens legal keeps = steps_keep image d dd w x ks w.halted_at refl happens (legal refl) keeps
happens_keep image d dd w x ks (Key byte) happens legal keeps = moved image d w x (ap (λ (v : WorldState). v.state) happens.1) keeps
happens_keep image d dd w x ks PrinterDone happens legal keeps = moved image d w x (ap (λ (v : WorldState). v.state) happens) keeps
happens_keep image d dd w x ks (ReaderDone byte) happens legal keeps = moved image d w x (ap (λ (v : WorldState). v.state) happens.1) keeps
happens_keep image d dd w x ks PunchDone happens legal keeps = moved image d w x (ap (λ (v : WorldState). v.state) happens) keeps
happens_keep image d dd w x ks (Switches word) happens legal keeps = moved image d w x (ap (λ (v : WorldState). v.state) happens.1) keeps
happens_keep image d dd w x ks Continue happens legal keeps = moved image d w x (ap (λ (v : WorldState). v.state) happens) keeps

-- each enabled step before event n of a run is legal
abbrev LegalBefore : Image → Declaration → List Event → WorldState → Calls → ℕ → Type 0
LegalBefore image d events w ks n =
    (m : ℕ) (x : WorldState) (ls : Calls) → m < n → slice_get events m ≡ Some Instruct → DeclaredEvents d (take m events) w ks x ls → x.halted_at ≡ None → IsLegal image d x.state ls

events_keep : (image : Image) (d : Declaration) → IsDeclared d → (n : ℕ) (events : List Event) (w x : WorldState) (ks ls : Calls) →
    LegalBefore image d events w ks n → DeclaredEvents d (take n events) w ks x ls → KeepsCode image d w.state.memory → KeepsCode image d x.state.memory
events_keep image d dd zero events w x ks ls legal leads keeps = subst (λ (v : WorldState). KeepsCode image d v.state.memory) leads.0 keeps
events_keep image d dd (suc n) [] w x ks ls legal leads keeps = subst (λ (v : WorldState). KeepsCode image d v.state.memory) leads.0 keeps
events_keep image d dd (suc n) (e ∷ es) w x ks ls legal leads keeps =
    let here : KeepsCode image d leads.0.state.memory = happens_keep image d dd w leads.0 ks e leads.1 (λ is running. legal 0 w ks (omega arith) (ap (λ (v : Event). Some v) is) (refl, refl) running) keeps in
    events_keep image d dd n es leads.0 x (calls_by d w e ks) ls (λ m y ms less step before running. legal (suc m) y ms (omega arith) step (leads.0, leads.1, before) running) leads.2 here

pub code_is_kept : CodeIsKept
code_is_kept image d events w n dd keeps breaks =
    breaks.broken.broken
    (events_keep image d dd n events w breaks.world [] breaks.calls (λ m x ks less step before running. breaks.first m x ks less (record { step = step; before = before; runs = running })) breaks.tries.before keeps)

pub steps_keep_code : StepsKeepCode
steps_keep_code image d s t q ks dd stays writes calls step keeps = declared_keeps image d dd s t q ks stays writes calls step keeps
