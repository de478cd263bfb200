-- The headline: a valid certificate makes a program safe.
use Rattle.std.specs.Prelude.{◌≡◌, ℕ, None, []}
use Rattle.processor.specs.Machine.{State, instruction}
use Rattle.declaration.specs.Declaration.{IsDeclared}
use Rattle.policy.specs.Calls.{Calls}
use Rattle.policy.specs.Rules.{ReadsListed, AssertionsHold}
use Rattle.policy.specs.Runs.{IsSafe}
use Rattle.facts.specs.declared.Condition.TheVariants.{V15, V16}
use Rattle.judge.specs.Landing.{Case}
use Rattle.judge.specs.Conditions.{IsValid, HoldsAt}

-- If every condition holds, the program keeps its declaration in every declared run, of the instruction table and of
-- event lists.
abbrev pub ProgramsAreSafe : Type 0
ProgramsAreSafe = (j : Case) → IsDeclared j.declaration → IsValid j → IsSafe j.image j.declaration

-- Without a list of reads the rule on reads and its condition hold of everything.
abbrev pub UnlistedReadsAreFree : Type 0
UnlistedReadsAreFree =
    (j : Case) → j.declaration.reads ≡ None →
    ((a : ℕ) → HoldsAt j V15 a) ×
    ((s : State) (ks : Calls) → ReadsListed j.declaration (instruction j.declaration.profile s) s ks)

-- Where nothing is asserted the rule on assertions and its condition hold of everything.
abbrev pub UnassertedIsFree : Type 0
UnassertedIsFree =
    (j : Case) → j.declaration.holds ≡ [] → j.declaration.returns ≡ [] →
    ((a : ℕ) → HoldsAt j V16 a) ×
    ((s : State) (ks : Calls) → AssertionsHold j.declaration (instruction j.declaration.profile s) s ks)
