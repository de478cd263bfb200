use Rattle.std.proofs.Common.{◌∙◌, ap}
use Rattle.wordset.specs.Lanes.{words}
use Rattle.wordset.specs.Links.{links_of}
use Rattle.domain.specs.Locations.{Cell}
use Rattle.domain.specs.ChainsInCode.{chain_of}
use Rattle.domain.specs.FactInCode.{fact_in_code}
use Rattle.domain.proofs.GivenLemmas.{in_cells, in_accumulators, in_differences, in_links}
use Rattle.domain.proofs.sum_fact.SumFact.words_of_chain.Goals as goal

pub returns-clause-cells : goal.returns-clause-cells
returns-clause-cells g c = in_cells (fact_in_code c.args.self.now) (chain_of c.args.chain.now) (words c.accumulator.result.now) (words c.put_set_of.new.place) (links_of c.link.result)
    c.none-found.result c.add_all_given.new.found c.accumulator.ensures (c.put_set_of.ensures ∙ ap (λ k. (fact_in_code c.args.self.now).set (Cell k)) c.cell.ensures) c.link.ensures c.none-found.ensures c.add_all_given.ensures

pub returns-clause-accumulators : goal.returns-clause-accumulators
returns-clause-accumulators g c = λ w small. in_accumulators (fact_in_code c.args.self.now) (chain_of c.args.chain.now) (words c.accumulator.result.now) (words c.put_set_of.new.place) (links_of c.link.result)
    c.none-found.result c.add_all_given.new.found c.accumulator.ensures (c.put_set_of.ensures ∙ ap (λ k. (fact_in_code c.args.self.now).set (Cell k)) c.cell.ensures) c.link.ensures c.none-found.ensures c.add_all_given.ensures w

pub returns-clause-differences : goal.returns-clause-differences
returns-clause-differences g c = in_differences (fact_in_code c.args.self.now) (chain_of c.args.chain.now) (words c.accumulator.result.now) (words c.put_set_of.new.place) (links_of c.link.result)
    c.none-found.result c.add_all_given.new.found c.accumulator.ensures (c.put_set_of.ensures ∙ ap (λ k. (fact_in_code c.args.self.now).set (Cell k)) c.cell.ensures) c.link.ensures c.none-found.ensures c.add_all_given.ensures

pub returns-clause-links : goal.returns-clause-links
returns-clause-links g c = in_links (fact_in_code c.args.self.now) (chain_of c.args.chain.now) (words c.accumulator.result.now) (words c.put_set_of.new.place) (links_of c.link.result)
    c.none-found.result c.add_all_given.new.found c.accumulator.ensures (c.put_set_of.ensures ∙ ap (λ k. (fact_in_code c.args.self.now).set (Cell k)) c.cell.ensures) c.link.ensures c.none-found.ensures c.add_all_given.ensures
