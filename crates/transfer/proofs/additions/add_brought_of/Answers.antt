use Rattle.std.proofs.Common.{refl, sym, ap, ◌∙◌}
use Rattle.wordset.specs.Lanes.{words}
use Rattle.domain.specs.Terms.{Sum}
use Rattle.domain.specs.Facts.{OfSums}
use Rattle.domain.specs.Adding.{adding, adding_all}
use Rattle.domain.specs.InCode.{term_of, sum_of}
use Rattle.domain.specs.FactInCode.{fact_in_code}
use Rattle.transfer.specs.Additions.{brought_by}
use Rattle.transfer.specs.Shaped.{told}
use Rattle.transfer.proofs.additions.add_brought_of.Goals as goal

pub returns-then-has_accumulator-clause-fact : goal.returns-then-has_accumulator-clause-fact
returns-then-has_accumulator-clause-fact g c =
    rw (sym c.has_accumulator.ensures ∙ c.if-has_accumulator.true)
    (c.add.ensures.fact ∙ ap (λ (s : Sum). adding OfSums (told s (words c.args.set.now)) (fact_in_code c.args.after.now)) c.less.ensures)

pub returns-then-names-clause-fact : goal.returns-then-names-clause-fact
returns-then-names-clause-fact g c = rw (sym c.has_accumulator.ensures ∙ c.if-has_accumulator.false, sym c.names.ensures ∙ c.if-names.true) refl

pub returns-clause-fact : goal.returns-clause-fact
returns-clause-fact g c =
    rw (sym c.has_accumulator.ensures ∙ c.if-has_accumulator.false, sym c.names.ensures ∙ c.if-names.false)
    (c.add_brought_by.ensures.fact ∙ ap (λ n. adding_all OfSums (brought_by n (term_of c.args.term.now) (words c.args.ac.now) (told (sum_of c.args.sum.now) (words c.args.set.now))) (fact_in_code c.args.after.now)) c.coefficient_of.ensures)
