use Rattle.std.proofs.Common.{◌∙◌, ap}
use Rattle.wordset.specs.Lanes.{words}
use Rattle.domain.specs.LocationsInCode.{location_of}
use Rattle.domain.specs.ChainsInCode.{chain_of, met_with_found}
use Rattle.domain.specs.FactInCode.{fact_in_code}
use Rattle.domain.proofs.NameAskedLemmas.{chain_told}
use Rattle.domain.proofs.sum_fact.SumFact.keep_for_chain.Goals as goal

pub returns : goal.returns
returns g c = λ f h. chain_told f (fact_in_code c.args.self.now) (chain_of c.args.chain.now) (location_of c.args.name.now) c.args.place.now
    (words c.words_of_chain-found.result.cells) (words c.words_of_chain-found.result.accumulators) _
    c.words_of_chain-found.ensures.cells c.words_of_chain-found.ensures.accumulators h
    (c.keep_found.ensures ∙ ap (λ k. met_with_found (words c.words_of_chain-found.result.cells) (words c.words_of_chain-found.result.accumulators) k (location_of c.args.name.now) (words c.args.place.now)) c.cell.ensures)
