use Rattle.std.proofs.Common.{map, ap, ◌∙◌}
use Rattle.wordset.specs.Words.{Words, toggled}
use Rattle.wordset.specs.Lanes.{words}
use Rattle.wordset.specs.Links.{links_of, carries_of}
use Rattle.domain.specs.Facts.{Fact}
use Rattle.domain.specs.RelationsInCode.{relation_of}
use Rattle.domain.specs.FactInCode.{fact_in_code}
use Rattle.transfer.specs.Shaped.{term_if}
use Rattle.transfer.proofs.RowsLemmas.{added_is}
use Rattle.transfer.proofs.additions.put_added.Goals as goal

pub returns : goal.returns
returns g c =
    added_is (words c.args.known.now) (words c.args.operand.now) (term_if c.args.term.now) (fact_in_code c.args.fact.now) (fact_in_code c.take_over.new.self) (fact_in_code c.push_equations.new.after)
    (fact_in_code c.set_name.new.self) (fact_in_code c.set_link.new.self) c.only.result c.only-2.result (map relation_of c.as_slice.result.now) (words c.sums-sums.result.0) (links_of c.toggled.result)
    c.take_over.ensures.fact c.only.ensures c.only-2.ensures (c.as_slice.ensures.relations ∙ c.relations.ensures)
    (c.push_equations.ensures.fact (ap (λ (h : Fact). h.relations) c.take_over.ensures.fact)) c.sums-sums.ensures.words c.set_name.ensures.fact
    (c.toggled.ensures ∙ ap (λ (k : Words). toggled k (carries_of c.sums-sums.result.1)) c.link.ensures ∙ ap (λ (k : Words). toggled (fact_in_code c.args.fact.now).link k) c.sums-sums.ensures.carries) c.set_link.ensures.fact
