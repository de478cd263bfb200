use Rattle.std.proofs.Common.{ap, ◌∙◌}
use Rattle.wordset.specs.Words.{Words, all_words}
use Rattle.wordset.specs.Lanes.{words}
use Rattle.domain.specs.Locations.{Ac}
use Rattle.domain.specs.InCode.{sum_of}
use Rattle.domain.specs.Facts.{Fact}
use Rattle.domain.specs.Adding.{with_name}
use Rattle.domain.specs.FactInCode.{fact_in_code}
use Rattle.transfer.specs.Shaped.{term_if}
use Rattle.transfer.proofs.RowsLemmas.{summed_is}
use Rattle.transfer.proofs.additions.put_summed.Goals as goal

pub returns-clause-fact : goal.returns-clause-fact
returns-clause-fact g c =
    summed_is (words c.args.operand.now) (term_if c.args.term.now) (fact_in_code c.args.fact.now) (fact_in_code c.put_accumulator.new.fact) (fact_in_code c.add_after_tad.new.after) (fact_in_code c.add_each_after_tad.new.after)
    (words c.accumulator-ac.result.now) (sum_of c.of_name.result) _ c.accumulator-ac.ensures c.of_name.ensures (c.as_slice.ensures.relations ∙ c.relations.ensures)
    (c.put_accumulator.ensures.fact ∙ ap (λ (s : Words). with_name Ac s (fact_in_code c.take_over.new.self)) c.all.ensures ∙ ap (λ (f : Fact). with_name Ac all_words f) c.take_over.ensures.fact)
    c.add_after_tad.ensures.fact c.add_each_after_tad.ensures.fact
