use Rattle.std.proofs.Common.{◌≡◌, true, sym, ap, ◌∙◌}
use Rattle.std.specs.Prelude.{◌||◌}
use Rattle.wordset.specs.Words.{one}
use Rattle.wordset.specs.Lanes.{words}
use Rattle.instruct.specs.Bits.{has_bit}
use Rattle.domain.specs.Locations.{Ac}
use Rattle.domain.specs.Facts.{Fact}
use Rattle.domain.specs.Adding.{with_name}
use Rattle.domain.specs.Narrowing.{asked_by}
use Rattle.domain.specs.FactInCode.{fact_in_code, rules_of}
use Rattle.transfer.specs.Outcomes.{with_link}
use Rattle.transfer.specs.Operations.{may_be, cleared2}
use Rattle.transfer.proofs.RowsLemmas.{tested_narrowed, tested_as_it_is, neither_first, neither_second, cleared_as_it_is}
use Rattle.transfer.proofs.operations.put_after_test.Goals as goal

pub returns-then-changes_accumulator-clause-may : goal.returns-then-changes_accumulator-clause-may
returns-then-changes_accumulator-clause-may g c pl e =
    let f : Fact = fact_in_code c.args.fact.now in
    let changes : (has_bit 7 c.args.word || has_bit 2 c.args.word) ≡ true = sym c.changes_accumulator.ensures ∙ c.if-changes_accumulator.true in
    c.may_be.ensures ∙ ap (λ (h : Fact). may_be (rules_of c.args.rules.now) h)
    (c.put_tested.ensures ∙ ap (λ i. asked_by (rules_of c.args.rules.now) i (with_link (one c.args.link) (with_name Ac (words c.args.part.now) f))) (sym e)
    ∙ sym (tested_narrowed (rules_of c.args.rules.now) pl c.args.word f (words c.args.part.now) c.args.link changes))

pub returns-then-changes_accumulator-clause-fact : goal.returns-then-changes_accumulator-clause-fact
returns-then-changes_accumulator-clause-fact g c pl e =
    let f : Fact = fact_in_code c.args.fact.now in
    let changes : (has_bit 7 c.args.word || has_bit 2 c.args.word) ≡ true = sym c.changes_accumulator.ensures ∙ c.if-changes_accumulator.true in
    c.put_cleared.ensures ∙ ap (λ (h : Fact). cleared2 c.args.word h)
    (c.put_tested.ensures ∙ ap (λ i. asked_by (rules_of c.args.rules.now) i (with_link (one c.args.link) (with_name Ac (words c.args.part.now) f))) (sym e)
    ∙ sym (tested_narrowed (rules_of c.args.rules.now) pl c.args.word f (words c.args.part.now) c.args.link changes))

pub returns-clause-may : goal.returns-clause-may
returns-clause-may g c pl e =
    c.may_be-2.ensures ∙ ap (λ (h : Fact). may_be (rules_of c.args.rules.now) h)
    (c.put_with_part.ensures.fact
    ∙ sym (tested_as_it_is (rules_of c.args.rules.now) pl c.args.word (fact_in_code c.args.fact.now) (words c.args.part.now) c.args.link (sym c.changes_accumulator.ensures ∙ c.if-changes_accumulator.false)))

pub returns-clause-fact : goal.returns-clause-fact
returns-clause-fact g c pl e =
    let neither = sym c.changes_accumulator.ensures ∙ c.if-changes_accumulator.false in
    let same = tested_as_it_is (rules_of c.args.rules.now) pl c.args.word (fact_in_code c.args.fact.now) (words c.args.part.now) c.args.link neither in
    c.put_with_part.ensures.fact ∙ sym same
    ∙ sym (cleared_as_it_is c.args.word _ (neither_first _ _ neither) (neither_second _ _ neither))
