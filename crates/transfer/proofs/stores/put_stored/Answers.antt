use Rattle.std.proofs.Common.{ap, ◌∙◌}
use Rattle.wordset.specs.Words.{Words, all_words, one}
use Rattle.wordset.specs.Lanes.{words}
use Rattle.domain.specs.Locations.{Ac, Cell}
use Rattle.domain.specs.Terms.{Sum}
use Rattle.domain.specs.Facts.{Fact}
use Rattle.domain.specs.Adding.{with_name, set_of_sum}
use Rattle.domain.specs.InCode.{sum_of}
use Rattle.domain.specs.FactInCode.{fact_in_code}
use Rattle.transfer.proofs.RowsLemmas.{stored_is}
use Rattle.transfer.proofs.stores.put_stored.Goals as goal

pub returns : goal.returns
returns g c =
    let f : Fact = fact_in_code c.args.fact.now in
    stored_is c.args.cell f (fact_in_code c.set_name-2.new.self) (fact_in_code c.add_after_store.new.after) (fact_in_code c.add_after_store-2.new.after) (fact_in_code c.add_each_after_store.new.after)
    (words c.put_set_of_sum.new.place) (words c.accumulator.result.now) (words c.put_set_of.new.place) (sum_of c.of_name.result) (sum_of c.of_name-2.result) _
    (c.put_set_of_sum.ensures ∙ ap (λ (s : Sum). set_of_sum f s) c.difference.ensures) c.accumulator.ensures c.put_set_of.ensures
    c.of_name.ensures c.of_name-2.ensures (c.as_slice.ensures.relations ∙ c.relations.ensures)
    (c.set_name-2.ensures.fact ∙ ap (λ (s : Words). with_name Ac s (fact_in_code c.set_name.new.self)) c.one.ensures
    ∙ ap (λ (h : Fact). with_name Ac (one 0) h)
    (c.set_name.ensures.fact ∙ ap (λ (s : Words). with_name (Cell c.args.cell) s (fact_in_code c.take_over.new.self)) c.all.ensures ∙ ap (λ (h : Fact). with_name (Cell c.args.cell) all_words h) c.take_over.ensures.fact))
    c.add_after_store.ensures.fact c.add_after_store-2.ensures.fact c.add_each_after_store.ensures
