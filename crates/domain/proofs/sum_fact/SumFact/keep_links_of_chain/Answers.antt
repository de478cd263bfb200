use Rattle.domain.specs.Narrowing.{links_of_chain}
use Rattle.domain.specs.ChainsInCode.{chain_of}
use Rattle.domain.specs.FactInCode.{fact_in_code}
use Rattle.domain.proofs.GivenLemmas.{met_with_chain}
use Rattle.domain.proofs.sum_fact.SumFact.keep_links_of_chain.Goals as goal

pub returns : goal.returns
returns g c = λ l. met_with_chain c.args.links.now c.met_links.result c.links_given-given.result (links_of_chain (fact_in_code c.args.self.now) (chain_of c.args.chain.now)) l
    (c.met_links.ensures l) (c.links_given-given.ensures l)
