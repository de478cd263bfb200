use Rattle.std.proofs.Common.{◌≡◌, ◌∙◌, ap}
use Rattle.wordset.specs.Lanes.{words}
use Rattle.domain.specs.Locations.{Cell}
use Rattle.domain.proofs.LinkLemmas.{of_two_links}
use Rattle.domain.specs.ChainsInCode.{chain_of}
use Rattle.domain.specs.FactInCode.{fact_in_code}
use Rattle.domain.specs.Narrowing.{links_of_chain}
use Rattle.domain.proofs.sum_fact.SumFact.links_given.Goals as goal

pub returns : goal.returns
returns g c =
    let set : words c.put_set_of.new.place ≡ (fact_in_code c.args.self.now).set (Cell (chain_of c.args.chain.now).cell) =
    c.put_set_of.ensures ∙ ap (λ a. (fact_in_code c.args.self.now).set (Cell a)) c.cell.ensures in
    of_two_links c.allows_link-clear.result c.allows_link-set.result (links_of_chain (fact_in_code c.args.self.now) (chain_of c.args.chain.now))
    (c.allows_link-clear.ensures set) (c.allows_link-set.ensures set)
