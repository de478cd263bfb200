-- Watched runs: each event leads to one world, and the code stays.
use Rattle.std.proofs.Common.{ℕ, ◌≡◌, ◌<◌, ◌≤◌, ◌+◌, Bool, true, false, inl, inr, Option, Some, None, List, [], ◌∷◌, ◌++◌, refl, sym, ap, ◌∙◌, subst, arith}
use Rattle.std.specs.Prelude.{if◌then◌else◌, not, take, length, slice_get}
use Rattle.std.proofs.lemmas.Option.{slice_get_within}
use Rattle.std.proofs.lemmas.Bool.{cases_eq}
use Rattle.instruct.specs.declared.Profile.{Profile}
use Rattle.instruct.specs.Instructions.{Meaning, And, Tad, Isz, Dca, Jms, Jmp, Group1, Group2, Group3, Device, Undefined}
use Rattle.processor.specs.Machine.{State, instruction, after}
use Rattle.processor.specs.Runs.{Image}
use Rattle.peripherals.specs.declared.Event.{Event}
use Rattle.peripherals.specs.declared.Event.TheVariants.{Step as Instruct, Key, PrinterDone, ReaderDone, PunchDone, Switches, Continue}
use Rattle.peripherals.specs.Devices.{WorldState, answer_of}
use Rattle.peripherals.specs.Events.{Happens}
use Rattle.peripherals.proofs.OneLemmas.{one_world}
use Rattle.processor.specs.declared.fetch.DecodedInstruction.{DecodedInstruction}
use Rattle.declaration.specs.Declaration.{Declaration, IsDeclared}
use Rattle.policy.specs.Calls.{Calls, calls_of, calls_after}
use Rattle.policy.specs.Rules.{KeepsCode, IsLegal}
use Rattle.policy.specs.Runs.{HappensDeclared, DeclaredEvents, calls_by, calls_running, resumed}
use Rattle.processor.specs.Fetch.{decoded, fetched}
use Rattle.policy.specs.declared.legality.Call.{Call as KeptCall}
use Rattle.policy.specs.OpenCalls.{open_calls}
use Rattle.policy.specs.declared.rules.Rule.{Rule}
use Rattle.policy.specs.Watching.{IsLeastBroken, TriesAt, IsCleanBefore, IsClean, BreaksAt}
use Rattle.policy.specs.Decided.{followed, IsCall}
use Rattle.policy.specs.WatchedSteps.{Goes, Stops, CallsRoutine, TakesMemory, Passes, waits, Grows, GrowsAt, LegalStepTakesMemory}
use Rattle.policy.proofs.CodeLemmas.{step_keeps}

-- an event leads to one world
pub happens_one : (d : Declaration) (w : WorldState) (e : Event) (x y : WorldState) → HappensDeclared d w e x → HappensDeclared d w e y → x ≡ y
happens_one d w Instruct x y a b = one_world d.profile w Instruct x y a b
happens_one d w (Key byte) x y a b = one_world d.profile w (Key byte) x y a b
happens_one d w PrinterDone x y a b = one_world d.profile w PrinterDone x y a b
happens_one d w (ReaderDone byte) x y a b = one_world d.profile w (ReaderDone byte) x y a b
happens_one d w PunchDone x y a b = one_world d.profile w PunchDone x y a b
happens_one d w (Switches word) x y a b = one_world d.profile w (Switches word) x y a b
happens_one d w Continue x y a b = a ∙ sym b

-- a list of events leads to one world and one call list
pub run_one : (d : Declaration) (es : List Event) (w : WorldState) (ks : Calls) (x y : WorldState) (ls ms : Calls) →
    DeclaredEvents d es w ks x ls → DeclaredEvents d es w ks y ms → (x ≡ y) × (ls ≡ ms)
run_one d [] w ks x y ls ms a b = (sym a.0 ∙ b.0, sym a.1 ∙ b.1)
run_one d (e ∷ es) w ks x y ls ms a b =
    let same : b.0 ≡ a.0 = happens_one d w e b.0 a.0 b.1 a.1 in
    run_one d es a.0 (calls_by d w e ks) x y ls ms a.2 (subst (λ (m : WorldState). DeclaredEvents d es m (calls_by d w e ks) y ms) same b.2)

-- an event more
pub run_more : (d : Declaration) (es : List Event) (w : WorldState) (ks : Calls) (m : WorldState) (ls : Calls) (e : Event) (x : WorldState) →
    DeclaredEvents d es w ks m ls → HappensDeclared d m e x → DeclaredEvents d (es ++ e ∷ []) w ks x (calls_by d m e ls)
run_more d [] w ks m ls e x a happens =
    let first : HappensDeclared d w e x = subst (λ (v : WorldState). HappensDeclared d v e x) (sym a.0) happens in
    (x, first, (refl, ap (λ (v : WorldState). calls_by d v e ks) a.0 ∙ ap (λ (l : Calls). calls_by d m e l) a.1))
run_more d (f ∷ es) w ks m ls e x a happens = (a.0, a.1, run_more d es a.0 (calls_by d w f ks) m ls e x a.2 happens)

-- the call list by a fetched instruction
pub followed_calls : (d : Declaration) (m : Meaning) (s : State) (ks : Calls) → followed d (decoded m (s.memory s.pc) s.memory) (after s.pc 1) ks ≡ calls_of d m s ks
followed_calls d (And i c) s ks = refl
followed_calls d (Tad i c) s ks = refl
followed_calls d (Isz i c) s ks = refl
followed_calls d (Dca i c) s ks = refl
followed_calls d (Jms i c) s ks = refl
followed_calls d (Jmp i c) s ks = refl
followed_calls d (Group1 w) s ks = refl
followed_calls d (Group2 w) s ks = refl
followed_calls d (Group3 o) s ks = refl
followed_calls d (Device x) s ks = refl
followed_calls d Undefined s ks = refl

pub calls_by_instruction : (d : Declaration) (p : Profile) (t s : State) (i : DecodedInstruction) (next : ℕ) (ks ls : Calls) → t ≡ s → p ≡ d.profile →
    i ≡ fetched p t → next ≡ after t.pc 1 → ls ≡ followed d i next ks → ls ≡ calls_after d s ks
calls_by_instruction d p t s i next ks ls same profile does pc is =
    let here : ls ≡ calls_after d t ks = rw (does, pc, profile) at is ∙ followed_calls d (instruction d.profile t) t ks in
    subst (λ (x : State). ls ≡ calls_after d x ks) same here

-- a call, from a fetched instruction
pub calls_routine : (d : Declaration) (m : Meaning) (s : State) → IsCall d (decoded m (s.memory s.pc) s.memory) → CallsRoutine d m s
calls_routine d (And i c) s call = cc
calls_routine d (Tad i c) s call = cc
calls_routine d (Isz i c) s call = cc
calls_routine d (Dca i c) s call = cc
calls_routine d (Jms i c) s call = call
calls_routine d (Jmp i c) s call = cc
calls_routine d (Group1 w) s call = call
calls_routine d (Group2 w) s call = call
calls_routine d (Group3 o) s call = call
calls_routine d (Device x) s call = call
calls_routine d Undefined s call = call

pub call_takes : (d : Declaration) (p : Profile) (t : State) (w : WorldState) (i : DecodedInstruction) → t ≡ w.state → p ≡ d.profile →
    i ≡ fetched p t → IsCall d i → TakesMemory d w
call_takes d p t w i same profile does call =
    let here : CallsRoutine d (instruction d.profile t) t = calls_routine d (instruction d.profile t) t (rw (does, profile) at call) in
    inr (subst (λ (x : State). CallsRoutine d (instruction d.profile x) x) same here)

-- an event that is no step, and no CONTINUE at a stop
continued : (d : Declaration) (w x : WorldState) → resumed d w.halted_at ≡ None → x ≡ record w { halted_at = None } → x ≡ record w { halted_at = resumed d w.halted_at }
continued d w x goes_on is = is ∙ ap (λ (h : Option ℕ). let made : WorldState = record w { halted_at = h } in made) (sym goes_on)

quiet : (d : Declaration) (w : WorldState) (ks : Calls) (e : Event) (x : WorldState) → HappensDeclared d w e x → ks ≡ calls_by d w e ks → (e ≡ Instruct → ⊥) → x.state ≡ w.state → Goes d w ks e x ks
quiet d w ks e x happens calls other same = record {
  happens = happens;
  calls = calls;
  legal = λ image keeps is running. absurd (other is);
  code = λ dd image keeps. subst (λ (s : State). KeepsCode image d s.memory) (sym same) keeps;
}

pub passes_on : (d : Declaration) (w : WorldState) (ks : Calls) (e : Event) (x : WorldState) → Passes d w e → Happens d.profile w e x → Goes d w ks e x ks
passes_on d w ks Instruct x passes happens = absurd passes
passes_on d w ks (Key byte) x passes happens = quiet d w ks (Key byte) x happens refl (λ is. cc) (ap (λ (v : WorldState). v.state) happens.1)
passes_on d w ks PrinterDone x passes happens = quiet d w ks PrinterDone x happens refl (λ is. cc) (ap (λ (v : WorldState). v.state) happens)
passes_on d w ks (ReaderDone byte) x passes happens = quiet d w ks (ReaderDone byte) x happens refl (λ is. cc) (ap (λ (v : WorldState). v.state) happens.1)
passes_on d w ks PunchDone x passes happens = quiet d w ks PunchDone x happens refl (λ is. cc) (ap (λ (v : WorldState). v.state) happens)
passes_on d w ks (Switches word) x passes happens = quiet d w ks (Switches word) x happens refl (λ is. cc) (ap (λ (v : WorldState). v.state) happens.1)
passes_on d w ks Continue x passes happens = quiet d w ks Continue x (continued d w x passes happens) refl (λ is. cc) (ap (λ (v : WorldState). v.state) happens)

-- a CONTINUE where the machine doesn't wait
pub goes_on : (d : Declaration) (halted : Option ℕ) → waits d halted ≡ false → resumed d halted ≡ None
goes_on d None is = refl
goes_on d (Some at) is = at_pause (d.pause at) at is
  where
    at_pause : (pause : Bool) (at : ℕ) → not pause ≡ false → (if pause then None else Some at) ≡ None
    at_pause true at is = refl
    at_pause false at is = cc

still : (d : Declaration) (halted : Option ℕ) → waits d halted ≡ true → resumed d halted ≡ halted
still d None is = cc
still d (Some at) is = at_stop (d.pause at) at is
  where
    at_stop : (pause : Bool) (at : ℕ) → not pause ≡ true → (if pause then None else Some at) ≡ Some at
    at_stop true at is = cc
    at_stop false at is = refl

-- a step while the machine is halted
halted_calls : (d : Declaration) (w : WorldState) (ks : Calls) (halted : Option ℕ) (at : ℕ) → halted ≡ Some at → ks ≡ calls_running d w halted ks
halted_calls d w ks halted at is = rw is refl

pub halted_step : (d : Declaration) (w : WorldState) (ks : Calls) (at : ℕ) → w.halted_at ≡ Some at → Goes d w ks Instruct w ks
halted_step d w ks at is = record {
  happens = record { runs = λ running. absurd (let other : Some at ≡ None = sym is ∙ running in cc); halted = λ where_at same. refl };
  calls = halted_calls d w ks w.halted_at at is;
  legal = λ image keeps step running. absurd (let other : Some at ≡ None = sym is ∙ running in cc);
  code = λ dd image keeps. keeps;
}

-- a legal step of a machine that runs
running_calls : (d : Declaration) (w : WorldState) (ks : Calls) (halted : Option ℕ) → halted ≡ None → calls_after d w.state ks ≡ calls_running d w halted ks
running_calls d w ks halted is = rw is refl

pub legal_step : (d : Declaration) (w : WorldState) (ks : Calls) (x : WorldState) (ls : Calls) → w.halted_at ≡ None → Happens d.profile w Instruct x → ls ≡ calls_after d w.state ks →
    ((image : Image) → KeepsCode image d w.state.memory → IsLegal image d w.state ks) → Goes d w ks Instruct x ls
legal_step d w ks x ls running happens calls legal = record {
  happens = happens;
  calls = calls ∙ running_calls d w ks w.halted_at running;
  legal = λ image keeps step runs. legal image keeps;
  code = λ dd image keeps. elim (happens.runs running) [
    | inl out ↦ step_keeps image d dd w.state x.state (answer_of d.profile w) ks (legal image keeps) out.step
    | inr none ↦ subst (λ (v : WorldState). KeepsCode image d v.state.memory) (sym none.1) keeps
  ];
}

pub stopped_step : (d : Declaration) (w : WorldState) (ks : Calls) (r : Rule) → w.halted_at ≡ None →
    ((image : Image) → KeepsCode image d w.state.memory → IsLeastBroken image d w.state ks r) → Stops d w ks Instruct r
stopped_step d w ks r running broken = record { step = refl; runs = running; broken = broken }

-- what is known of a processor and a list of calls that are lent
pub legal_here : (d : Declaration) (t s : State) (cs ds : List KeptCall) → t ≡ s → cs ≡ ds →
    ((image : Image) → KeepsCode image d t.memory → IsLegal image d t (open_calls cs)) → (image : Image) → KeepsCode image d s.memory → IsLegal image d s (open_calls ds)
legal_here d t s cs ds same calls legal =
    subst (λ (x : State). (image : Image) → KeepsCode image d x.memory → IsLegal image d x (open_calls ds)) same
    (subst (λ (l : List KeptCall). (image : Image) → KeepsCode image d t.memory → IsLegal image d t (open_calls l)) calls legal)

pub broken_here : (d : Declaration) (t s : State) (cs ds : List KeptCall) (r : Rule) → t ≡ s → cs ≡ ds →
    ((image : Image) → KeepsCode image d t.memory → IsLeastBroken image d t (open_calls cs) r) → (image : Image) → KeepsCode image d s.memory → IsLeastBroken image d s (open_calls ds) r
broken_here d t s cs ds r same calls broken =
    subst (λ (x : State). (image : Image) → KeepsCode image d x.memory → IsLeastBroken image d x (open_calls ds) r) same
    (subst (λ (l : List KeptCall). (image : Image) → KeepsCode image d t.memory → IsLeastBroken image d t (open_calls l) r) calls broken)

-- what is known when so many events were taken
pub record Taken (d : Declaration) (events : List Event) (w : WorldState) (n : ℕ) (x : WorldState) (ks : Calls) : Type 0 where
  pub run : DeclaredEvents d (take n events) w [] x ks
  pub code : (image : Image) → KeepsCode image d w.state.memory → KeepsCode image d x.state.memory
  pub clean : (image : Image) → KeepsCode image d w.state.memory → IsCleanBefore image d events w n

pub none_taken : (d : Declaration) (events : List Event) (w : WorldState) (ks : Calls) → ks ≡ [] → Taken d events w 0 w ks
none_taken d events w ks none = record {
  run = (refl, sym none);
  code = λ image keeps. keeps;
  clean = λ image keeps m x ls less. absurd (omega arith);
}

-- the world of an event is that to which the events before it lead
same_step : (image : Image) (d : Declaration) (events : List Event) (w : WorldState) (n m : ℕ) (e : Event) (x y : WorldState) (ks ls : Calls) → m ≡ n →
    slice_get events n ≡ Some e → DeclaredEvents d (take n events) w [] x ks → TriesAt d events w m y ls →
    (e ≡ Instruct → x.halted_at ≡ None → IsLegal image d x.state ks) → IsLegal image d y.state ls
same_step image d events w n m e x y ks ls at is run tries legal =
    let here : TriesAt d events w n y ls = subst (λ (k : ℕ). TriesAt d events w k y ls) at tries in
    let step : e ≡ Instruct = some_event e Instruct (sym is ∙ here.step) in
    let one = run_one d (take n events) w [] x y ks ls run here.before in
    let running : x.halted_at ≡ None = subst (λ (v : WorldState). v.halted_at ≡ None) (sym one.0) here.runs in
    subst (λ (l : Calls). IsLegal image d y.state l) one.1 (subst (λ (v : WorldState). IsLegal image d v.state ks) one.0 (legal step running))
  where
    some_event : (e f : Event) → Some e ≡ Some f → e ≡ f
    some_event e f same = cc

pub taken_more : (d : Declaration) → IsDeclared d → (events : List Event) (w : WorldState) (n : ℕ) (e : Event) (x y : WorldState) (ks ls : Calls) →
    slice_get events n ≡ Some e → take (n + 1) events ≡ take n events ++ e ∷ [] → Taken d events w n x ks → Goes d x ks e y ls → Taken d events w (n + 1) y ls
taken_more d dd events w n e x y ks ls is more taken goes = record {
  run =
      let longer : DeclaredEvents d (take n events ++ e ∷ []) w [] y (calls_by d x e ks) = run_more d (take n events) w [] x ks e y taken.run goes.happens in
      subst (λ (l : Calls). DeclaredEvents d (take (n + 1) events) w [] y l) (sym goes.calls) (subst (λ (es : List Event). DeclaredEvents d es w [] y (calls_by d x e ks)) (sym more) longer);
  code = λ image keeps. goes.code dd image (taken.code image keeps);
  clean = λ image keeps m v ms less tries. elim (cases_eq m n) [
    | inl at ↦ same_step image d events w n m e x v ks ms at is taken.run tries (goes.legal image (taken.code image keeps))
    | inr other ↦ taken.clean image keeps m v ms (omega arith) tries
  ];
}

-- the end of the list
pub all_taken : (image : Image) (d : Declaration) (events : List Event) (w : WorldState) (n : ℕ) (x : WorldState) (ks : Calls) → length events ≤ n →
    Taken d events w n x ks → KeepsCode image d w.state.memory → IsClean image d events w
all_taken image d events w n x ks whole taken keeps = λ m v ms tries.
    let inside : m < length events = slice_get_within events m Instruct tries.step in
    taken.clean image keeps m v ms (omega arith) tries

-- a step that breaks a rule
pub stopped : (image : Image) (d : Declaration) (events : List Event) (w : WorldState) (n : ℕ) (e : Event) (x : WorldState) (ks : Calls) (r : Rule) →
    slice_get events n ≡ Some e → Taken d events w n x ks → Stops d x ks e r → KeepsCode image d w.state.memory → BreaksAt image d events w n r
stopped image d events w n e x ks r is taken stops keeps = record {
  world = x;
  calls = ks;
  tries = record { step = is ∙ ap (λ (f : Event). Some f) stops.step; before = taken.run; runs = stops.runs };
  broken = stops.broken image (taken.code image keeps);
  first = taken.clean image keeps;
}

-- an event that takes memory
grows_step : (d : Declaration) (w : WorldState) (ks : Calls) (e : Event) → Grows d w ks e → (e ≡ Instruct) × GrowsAt d w ks
grows_step d w ks Instruct grows = (refl, grows)
grows_step d w ks (Key byte) grows = absurd grows
grows_step d w ks PrinterDone grows = absurd grows
grows_step d w ks (ReaderDone byte) grows = absurd grows
grows_step d w ks PunchDone grows = absurd grows
grows_step d w ks (Switches word) grows = absurd grows
grows_step d w ks Continue grows = absurd grows

pub grown : (image : Image) (d : Declaration) (events : List Event) (w : WorldState) (n : ℕ) (e : Event) (x : WorldState) (ks : Calls) →
    slice_get events n ≡ Some e → Taken d events w n x ks → Grows d x ks e → KeepsCode image d w.state.memory → LegalStepTakesMemory image d events w
grown image d events w n e x ks is taken grows keeps =
    let step = grows_step d x ks e grows in
    record {
      place = n;
      world = x;
      calls = ks;
      tries = record { step = is ∙ ap (λ (f : Event). Some f) step.0; before = taken.run; runs = step.1.runs };
      takes = step.1.takes;
      legal = step.1.legal image (taken.code image keeps);
      first = taken.clean image keeps;
    }

pub legal_growth : (d : Declaration) (w : WorldState) (ks : Calls) → w.halted_at ≡ None → TakesMemory d w →
    ((image : Image) → KeepsCode image d w.state.memory → IsLegal image d w.state ks) → GrowsAt d w ks
legal_growth d w ks runs takes legal = record { runs = runs; takes = takes; legal = legal }
