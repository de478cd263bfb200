-- No two conditions fail first.
use Rattle.std.proofs.Common.{◌≡◌, ℕ, sym, ◌∙◌, subst, inl, inr}
use Rattle.std.proofs.lemmas.Bool.{cases_order}
use Rattle.facts.specs.declared.Condition.{Condition}
use Rattle.facts.specs.declared.Condition.TheVariants.{V1}
use Rattle.judge.specs.ConditionOrder.{order}
use Rattle.judge.specs.Landing.{Case}
use Rattle.judge.specs.Conditions.{IsAsked}
use Rattle.judge.specs.Laws.{FirstIsOne}
use Rattle.judge.proofs.PlaceLemmas.{start_or_later}
use Rattle.judge.proofs.ConditionLemmas.{start_before, later_order}

at_start : (j : Case) (v : Condition) (a : ℕ) → v ≡ V1 → IsAsked j v a → a ≡ j.declaration.start
at_start j v a e asked = subst (λ x. IsAsked j x a) e asked

one_order : (j : Case) (v u : Condition) (a b : ℕ) → IsAsked j v a → IsAsked j u b → order v a ≡ order u b → (v ≡ u) × (a ≡ b)
one_order j v u a b asked also same = elim (start_or_later v) [
  | inl e ↦ elim (start_or_later u) [
    | inl k ↦ (e ∙ sym k, at_start j v a e asked ∙ sym (at_start j u b k also))
    | inr l ↦ absurd (start_before v u a b e l same)
  ]
  | inr l ↦ elim (start_or_later u) [
    | inl k ↦ absurd (start_before u v b a k l (sym same))
    | inr m ↦ later_order v u a b l m same
  ]
]

pub one_first : FirstIsOne
one_first j v u a b f g = elim (cases_order (order v a) (order u b)) [
  | inl same ↦ one_order j v u a b f.asked g.asked same
  | inr differ ↦ elim differ [
    | inl less ↦ absurd (f.fails (g.before v a f.asked less))
    | inr more ↦ absurd (g.fails (f.before u b g.asked more))
  ]
]
