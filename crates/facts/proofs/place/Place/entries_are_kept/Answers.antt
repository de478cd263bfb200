use Rattle.std.proofs.Common.{arith, ◌∙◌, refl, sym, ap}
use Rattle.std.proofs.lemmas.Bool.{true≢false}
use Rattle.wordset.specs.Words.{Words}
use Rattle.wordset.proofs.IterLemmas.{of_set, one_more, one_fails, all_pass}
use Rattle.domain.specs.FactInCode.{fact_in_code}
use Rattle.facts.proofs.AskedLemmas.{over, over_none, over_one}
use Rattle.facts.proofs.place.Place.entries_are_kept.Goals as goal

pub returns-in-Some : goal.returns-in-Some
returns-in-Some g c = over_one _ c.in-Some.cell _ (c.in-Some.ensures (fact_in_code c.args.fact.now)) (omega (arith, c.index-index.ensures.same, c.index-index.ensures.small)) c.keeps_entry.ensures

pub returns-then-not-is_writing : goal.returns-then-not-is_writing
returns-then-not-is_writing g c = over_none _ _ (c.is_writing.ensures c.if-not-is_writing.true (fact_in_code c.args.fact.now))

pub returns-then-is_subset : goal.returns-then-is_subset
returns-then-is_subset g c =
    over _ _ _ c.put_writes.ensures
    (λ t a lt w e. absurd (true≢false (sym (c.is_subset.ensures.0 c.if-is_subset.true a lt w) ∙ (ap (λ (x : Words). x a) c.variables.ensures ∙ c.is_declared.ensures.entry_not_variable a e))), λ q. refl)

pub returns-then-not-keeps_entry : goal.returns-then-not-keeps_entry
returns-then-not-keeps_entry g c =
    over _ _ _ c.put_writes.ensures (one_fails _ (of_set c.iter-cell-items.ensures c.into_iter-cell-iterator.ensures.into_iter_gives c.loop-cell.invariant) c.in-Some-cell.ensures.steps c.if-not-keeps_entry.true c.keeps_entry-in-loop-cell.ensures.1)

pub returns : goal.returns
returns g c = over _ _ _ c.put_writes.ensures (λ t. all_pass (of_set c.iter-cell-items.ensures c.into_iter-cell-iterator.ensures.into_iter_gives c.loop-cell.invariant) c.in-None.ensures.steps, λ q. refl)

pub loop-cell-preserved : goal.loop-cell-preserved
loop-cell-preserved g c = one_more c.loop-cell.invariant c.in-Some-cell.ensures.steps (c.keeps_entry-in-loop-cell.ensures.0 c.if-not-keeps_entry.false)
