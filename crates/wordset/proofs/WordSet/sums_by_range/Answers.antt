use Rattle.std.proofs.Common.{◌≡◌, ◌+◌, ◌-◌, ◌||◌, ◌∙◌, ap, sym, arith}
use Rattle.wordset.specs.Words.{sums, smeared, shifted}
use Rattle.wordset.specs.Lanes.{words}
use Rattle.wordset.proofs.SumLemmas.{sums_all, has_some_from}
use Rattle.wordset.proofs.SetLemmas.{words_that}
use Rattle.wordset.proofs.SmearLemmas.{none_summed, one_summed, all_summed}
use Rattle.wordset.proofs.WordSet.sums_by_range.Goals as goal

pub returns-then-not-is_empty : goal.returns-then-not-is_empty
returns-then-not-is_empty c = c.all.ensures ∙ sums_all (words c.args.self.now) (has_some_from (words c.args.self.now) c.is_empty.result c.is_empty.ensures c.if-not-is_empty.true)
    ∙ ap (sums (words c.args.self.now)) (sym (c.is_all.ensures.0 c.if-is_all.true))

pub loop-low-init : goal.loop-low-init
loop-low-init c = none_summed c.ranges-low-items.ensures c.into_iter-low-iterator.ensures.into_iter_gives (λ v. ap (λ t. t v) c.empty-found.ensures)

pub loop-low-preserved : goal.loop-low-preserved
loop-low-preserved c =
    let counted : c.index.result - c.index-in-loop-low.result + 1 ≡ c.in-Some.high - c.in-Some.low + 1 = omega (arith, c.index.ensures.same, c.index-in-loop-low.ensures.same) in
    let moved : words c.shift.result ≡ shifted (smeared (words c.args.other.now) (c.in-Some.high - c.in-Some.low + 1)) c.in-Some.low =
    c.shift.ensures ∙ ap (λ s. shifted s c.in-Some.low) (c.smeared-smeared.ensures ∙ ap (smeared (words c.args.other.now)) counted) in
    one_summed c.loop-low.invariant c.in-Some.ensures.steps (λ v. ap (λ t. t v) c.union-found.ensures ∙ ap (λ p. words c.loop-low.found v || p) (ap (λ t. t v) moved))

pub returns : goal.returns
returns c = words_that c.loop-low.found _ (all_summed c.loop-low.invariant c.in-None.ensures.steps)
