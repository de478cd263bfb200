use Rattle.std.proofs.Common.{◌∙◌, ◌&&◌, List, map, ap}
use Rattle.std.specs.List.{list_all}
use Rattle.std.proofs.Math.Path.{fun_ext}
use Rattle.wordset.specs.Words.{Words}
use Rattle.wordset.specs.Links.{links_of}
use Rattle.domain.specs.Narrowing.{links_of_chain}
use Rattle.domain.specs.ChainsInCode.{chain_of}
use Rattle.domain.specs.FactInCode.{fact_in_code}
use Rattle.domain.proofs.sum_fact.SumFact.keep_links_of_chains.Goals as goal

pub returns-clause-fact : goal.returns-clause-fact
returns-clause-fact g c = ap (λ (s : Words). record (fact_in_code c.args.self.now) { link = s }) (fun_ext (λ l. c.keep_links_of.ensures l
    ∙ ap (λ (cs : List _). links_of c.args.self.now.link l && list_all (λ d. links_of_chain (fact_in_code c.args.fact.now) d l) (map chain_of cs)) c.as_slice.ensures.value))
