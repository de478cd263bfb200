use Rattle.std.proofs.Common.{refl, sym, ap, ◌∙◌}
use Rattle.wordset.specs.Words.{Words}
use Rattle.domain.specs.Facts.{OfSums}
use Rattle.domain.specs.Adding.{adding}
use Rattle.domain.specs.InCode.{sum_of}
use Rattle.domain.specs.FactInCode.{fact_in_code}
use Rattle.transfer.specs.Shaped.{told}
use Rattle.transfer.proofs.additions.add_moved.Goals as goal

pub returns-then-has_accumulator-clause-fact : goal.returns-then-has_accumulator-clause-fact
returns-then-has_accumulator-clause-fact g c =
    rw (sym c.has_accumulator.ensures ∙ c.if-has_accumulator.true)
    (c.add.ensures.fact ∙ ap (λ (w : Words). adding OfSums (told (sum_of c.args.sum.now) w) (fact_in_code c.args.after.now)) c.sums-found.ensures.words)

pub returns-then-names-clause-fact : goal.returns-then-names-clause-fact
returns-then-names-clause-fact g c = rw (sym c.has_accumulator.ensures ∙ c.if-has_accumulator.false, sym c.names.ensures ∙ c.if-names.true) refl

pub returns-clause-fact : goal.returns-clause-fact
returns-clause-fact g c = rw (sym c.has_accumulator.ensures ∙ c.if-has_accumulator.false, sym c.names.ensures ∙ c.if-names.false) c.add-2.ensures.fact
