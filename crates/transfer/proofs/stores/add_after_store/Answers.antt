use Rattle.std.proofs.Common.{refl, sym, ap, ◌∙◌}
use Rattle.wordset.specs.Lanes.{words}
use Rattle.domain.specs.Terms.{Sum}
use Rattle.domain.specs.Facts.{OfSums}
use Rattle.domain.specs.Adding.{adding}
use Rattle.domain.specs.FactInCode.{fact_in_code}
use Rattle.transfer.specs.Shaped.{told}
use Rattle.transfer.proofs.stores.add_after_store.Goals as goal

pub returns-then-not-names-clause-fact : goal.returns-then-not-names-clause-fact
returns-then-not-names-clause-fact g c =
    rw (sym c.has_accumulator.ensures ∙ c.if-has_accumulator.true, sym c.names.ensures ∙ c.if-not-names.true)
    (c.add.ensures.fact ∙ ap (λ (s : Sum). adding OfSums (told s (words c.args.set.now)) (fact_in_code c.args.after.now)) c.with_cell_for_accumulator.ensures)

pub returns-else-not-names-clause-fact : goal.returns-else-not-names-clause-fact
returns-else-not-names-clause-fact g c = rw (sym c.has_accumulator.ensures ∙ c.if-has_accumulator.true, sym c.names.ensures ∙ c.if-not-names.false) refl

pub returns-then-names-clause-fact : goal.returns-then-names-clause-fact
returns-then-names-clause-fact g c = rw (sym c.has_accumulator.ensures ∙ c.if-has_accumulator.false, sym c.names-2.ensures ∙ c.if-names.true) refl

pub returns-clause-fact : goal.returns-clause-fact
returns-clause-fact g c = rw (sym c.has_accumulator.ensures ∙ c.if-has_accumulator.false, sym c.names-2.ensures ∙ c.if-names.false) c.add_besides.ensures.fact
