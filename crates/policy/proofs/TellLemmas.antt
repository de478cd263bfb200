-- What a watched run tells is the only true thing to tell.
use Rattle.std.proofs.Common.{ℕ, ◌≡◌, ◌<◌, ◌==◌, inl, inr, Result, IfOk, List, [], refl, sym, ap, ◌∙◌, subst, arith}
use Rattle.std.specs.Prelude.{if◌then◌else◌, take}
use Rattle.std.proofs.lemmas.Bool.{cases_eq, cases_lt}
use Rattle.std.proofs.lemmas.Result.{IfOk-weaker}
use Rattle.processor.specs.Cells.{cell_of}
use Rattle.processor.specs.Machine.{State}
use Rattle.processor.specs.Runs.{Image}
use Rattle.peripherals.specs.declared.Event.{Event}
use Rattle.peripherals.specs.declared.Start.{Start}
use Rattle.peripherals.specs.Devices.{WorldState}
use Rattle.peripherals.specs.Events.{IsLoaded}
use Rattle.peripherals.specs.Loading.{loaded}
use Rattle.policy.specs.declared.rules.Rule.{Rule}
use Rattle.policy.specs.declared.rules.Rule.TheVariants as rule
use Rattle.policy.specs.declared.watcher.Watched.{Watched}
use Rattle.policy.specs.declared.watcher.Watched.TheVariants.{Clean, Broken}
use Rattle.declaration.specs.Declaration.{Declaration}
use Rattle.policy.specs.Calls.{Calls}
use Rattle.policy.specs.Rules.{IsLegal, KeepsCode}
use Rattle.policy.specs.Runs.{IsSafe}
use Rattle.policy.specs.Watching.{number_of, Keeps, IsLeastBroken, IsClean, BreaksAt, Tells}
use Rattle.policy.specs.WatchedSteps.{LegalStepTakesMemory}
use Rattle.policy.proofs.CodeLemmas.{loaded_keeps}
use Rattle.policy.proofs.WatchLemmas.{run_one}

-- a legal step keeps each rule
keeps : (r : Rule) (image : Image) (d : Declaration) (s : State) (ks : Calls) → IsLegal image d s ks → Keeps r image d s ks
keeps rule.StaysInBody image d s ks legal = legal.stays
keeps rule.WritesDeclared image d s ks legal = legal.writes
keeps rule.CallsEntries image d s ks legal = legal.calls
keeps rule.ReturnsToItsCall image d s ks legal = legal.returns
keeps rule.HaltsDeclared image d s ks legal = legal.halts
keeps rule.KeepsCode image d s ks legal = legal.code
keeps rule.ReadsListed image d s ks legal = legal.reads
keeps rule.AssertionsHold image d s ks legal = legal.assertions

not_legal : (image : Image) (d : Declaration) (s : State) (ks : Calls) (r : Rule) → IsLeastBroken image d s ks r → IsLegal image d s ks → ⊥
not_legal image d s ks r least legal = least.broken (keeps r image d s ks legal)

-- the rule of a number
rule_of : ℕ → Rule
rule_of n =
    if n == 1 then rule.StaysInBody
    else (if n == 2 then rule.WritesDeclared
    else (if n == 3 then rule.CallsEntries
    else (if n == 4 then rule.ReturnsToItsCall
    else (if n == 5 then rule.HaltsDeclared
    else (if n == 6 then rule.KeepsCode
    else (if n == 7 then rule.ReadsListed
    else rule.AssertionsHold))))))

rule_of_number : (r : Rule) → rule_of (number_of r) ≡ r
unfolding rule_of
rule_of_number rule.StaysInBody = refl
rule_of_number rule.WritesDeclared = refl
rule_of_number rule.CallsEntries = refl
rule_of_number rule.ReturnsToItsCall = refl
rule_of_number rule.HaltsDeclared = refl
rule_of_number rule.KeepsCode = refl
rule_of_number rule.ReadsListed = refl
rule_of_number rule.AssertionsHold = refl

-- one rule is the least broken one
least_one : (image : Image) (d : Declaration) (s : State) (ks : Calls) (r q : Rule) → IsLeastBroken image d s ks r → IsLeastBroken image d s ks q → r ≡ q
least_one image d s ks r q a b = elim (cases_eq (number_of r) (number_of q)) [
  | inl same ↦ sym (rule_of_number r) ∙ ap rule_of same ∙ rule_of_number q
  | inr other ↦ elim (cases_lt (number_of r) (number_of q)) [
    | inl less ↦ absurd (a.broken (b.least r less))
    | inr more ↦ absurd (b.broken (a.least q (omega arith)))
  ]
]

-- a run is clean or breaks a rule, and not both
clean_apart : (image : Image) (d : Declaration) (events : List Event) (w : WorldState) (n : ℕ) (r : Rule) → IsClean image d events w → BreaksAt image d events w n r → ⊥
clean_apart image d events w n r clean breaks = not_legal image d breaks.world.state breaks.calls r breaks.broken (clean n breaks.world breaks.calls breaks.tries)

later : (image : Image) (d : Declaration) (events : List Event) (w : WorldState) (n m : ℕ) (r q : Rule) → n < m → BreaksAt image d events w n r → BreaksAt image d events w m q → ⊥
later image d events w n m r q less a b = not_legal image d a.world.state a.calls r a.broken (b.first n a.world a.calls less a.tries)

same_rule : (image : Image) (d : Declaration) (events : List Event) (w : WorldState) (n : ℕ) (r q : Rule) → BreaksAt image d events w n r → BreaksAt image d events w n q → r ≡ q
same_rule image d events w n r q a b =
    let one = run_one d (take n events) w [] a.world b.world a.calls b.calls a.tries.before b.tries.before in
    let here : IsLeastBroken image d b.world.state b.calls r =
    subst (λ (ks : Calls). IsLeastBroken image d b.world.state ks r) one.1 (subst (λ (x : WorldState). IsLeastBroken image d x.state a.calls r) one.0 a.broken) in
    least_one image d b.world.state b.calls r q here b.broken

breaks_one : (image : Image) (d : Declaration) (events : List Event) (w : WorldState) (n m : ℕ) (r q : Rule) → BreaksAt image d events w n r → BreaksAt image d events w m q → Broken n r ≡ Broken m q
breaks_one image d events w n m r q a b = elim (cases_eq n m) [
  | inl same ↦
      let moved : BreaksAt image d events w m r = subst (λ (k : ℕ). BreaksAt image d events w k r) same a in
      ap (λ (k : ℕ). Broken k r) same ∙ ap (λ (x : Rule). Broken m x) (same_rule image d events w m r q moved b)
  | inr other ↦ elim (cases_lt n m) [
    | inl less ↦ absurd (later image d events w n m r q less a b)
    | inr more ↦ absurd (later image d events w m n q r (omega arith) b a)
  ]
]

pub tells_clean : (image : Image) (d : Declaration) (events : List Event) (w : WorldState) (told : Watched) → Tells image d events w told → told ≡ Clean → IsClean image d events w
tells_clean image d events w told tells is = rw is at tells

pub tells_broken : (image : Image) (d : Declaration) (events : List Event) (w : WorldState) (told : Watched) (n : ℕ) (r : Rule) → Tells image d events w told → told ≡ Broken n r → BreaksAt image d events w n r
tells_broken image d events w told n r tells is = rw is at tells

pub clean_tells : (image : Image) (d : Declaration) (events : List Event) (w : WorldState) (told : Watched) → Tells image d events w told → IsClean image d events w → told ≡ Clean
clean_tells image d events w Clean tells clean = refl
clean_tells image d events w (Broken n r) tells clean = absurd (clean_apart image d events w n r clean tells)

pub broken_tells : (image : Image) (d : Declaration) (events : List Event) (w : WorldState) (told : Watched) (n : ℕ) (r : Rule) → Tells image d events w told → BreaksAt image d events w n r → told ≡ Broken n r
broken_tells image d events w Clean n r tells breaks = absurd (clean_apart image d events w n r tells breaks)
broken_tells image d events w (Broken m q) n r tells breaks = breaks_one image d events w m n q r tells breaks

-- of a safe program the declared run from a world as it is loaded is clean
pub safe_clean : (image : Image) (d : Declaration) (events : List Event) (w : WorldState) → IsLoaded image d.start w → IsSafe image d → IsClean image d events w
safe_clean image d events w start safe = λ m x ks tries. safe.events w x ks (take m events) start tries.before tries.runs

-- what is told of the loaded world
pub told_of : {E : Type 0} (r : Result Watched E) (image : Image) (d : Declaration) (start : Start) (events : List Event) (w : WorldState) → w ≡ loaded image d.start start →
    IfOk r (λ told. (i : Image) → KeepsCode i d w.state.memory → Tells i d events w told) → IfOk r (λ told. Tells image d events (loaded image d.start start) told)
told_of r image d start events w is tells =
    let here : KeepsCode image d w.state.memory = subst (λ (v : WorldState). KeepsCode image d v.state.memory) (sym is) (loaded_keeps image d (cell_of start.memory)) in
    IfOk-weaker r (λ told. (i : Image) → KeepsCode i d w.state.memory → Tells i d events w told) (λ told. Tells image d events (loaded image d.start start) told)
    (λ told f. subst (λ (v : WorldState). Tells image d events v told) is (f image here)) tells

-- a refused growth in the loaded world
pub growth_of : (image : Image) (d : Declaration) (start : Start) (events : List Event) (w : WorldState) → w ≡ loaded image d.start start →
    ((i : Image) → KeepsCode i d w.state.memory → LegalStepTakesMemory i d events w) → LegalStepTakesMemory image d events (loaded image d.start start)
growth_of image d start events w is grown =
    let here : KeepsCode image d w.state.memory = subst (λ (v : WorldState). KeepsCode image d v.state.memory) (sym is) (loaded_keeps image d (cell_of start.memory)) in
    subst (λ (v : WorldState). LegalStepTakesMemory image d events v) is (grown image here)
