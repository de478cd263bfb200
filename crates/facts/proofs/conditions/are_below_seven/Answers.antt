use Rattle.std.proofs.Common.{◌≡◌, ◌∙◌, ap, sym, refl, arith, inl, inr}
use Rattle.std.proofs.lemmas.Bool.{cases_lt}
use Rattle.domain.specs.Offsets.{offsets_in}
use Rattle.facts.proofs.AskedLemmas.{false_iff}
use Rattle.facts.proofs.conditions.are_below_seven.Goals as goal

pub returns-then-contains : goal.returns-then-contains
returns-then-contains c = false_iff (λ h. sym (h c.loop-o.o (omega arith) (omega arith)) ∙ sym c.contains.ensures ∙ c.if-contains.true)

pub loop-o-init : goal.loop-o-init
loop-o-init c = λ k from below. absurd (omega (arith, from, below))

pub loop-o-preserved : goal.loop-o-preserved
loop-o-preserved c = λ k from below. elim (cases_lt k c.loop-o.o) [
  | inl l ↦ c.loop-o.invariant k from l
  | inr g ↦ (let here : k ≡ c.loop-o.o = omega (arith, g, below) in ap (offsets_in c.args.offsets) here ∙ sym c.contains.ensures ∙ c.if-contains.false)
]

pub returns : goal.returns
returns c = (λ t k from below. c.loop-o.invariant k from (omega (arith, below)), λ q. refl)
