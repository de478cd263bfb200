use Rattle.std.proofs.Common.{◌≡◌, ◌∙◌, ◌&&◌, List, map, ap, sym}
use Rattle.std.specs.List.{list_all}
use Rattle.peripherals.specs.Loading.{image_of}
use Rattle.domain.specs.Facts.{Fact, Relation, OfSums}
use Rattle.domain.specs.Adding.{adding_all}
use Rattle.domain.specs.Narrowing.{narrowed, links_of_chain}
use Rattle.domain.specs.ChainsInCode.{chain_of}
use Rattle.domain.specs.FactInCode.{fact_in_code, all_parts, all_parts_of_chains}
use Rattle.domain.proofs.PartLemmas.{added_both}
use Rattle.domain.proofs.sum_fact.SumFact.narrow.Goals as goal

pub returns-clause-fact : goal.returns-clause-fact
unfolding narrowed
returns-clause-fact g c =
    let f : Fact = fact_in_code c.args.fact.now in
    let image = image_of c.args.image.now in
    let linked : Fact = record f { link = λ l. f.link l && list_all (λ d. links_of_chain f d l) f.chains } in
    let links : fact_in_code c.keep_links_of_chains.new.self ≡ linked =
    c.keep_links_of_chains.ensures.fact ∙ ap (λ (x : Fact). record x { link = λ l. x.link l && list_all (λ d. links_of_chain f d l) f.chains }) c.copy_from.ensures.fact in
    let parts : fact_in_code c.add_all_parts.new.self ≡ adding_all OfSums (all_parts image f f.relations) linked =
    c.add_all_parts.ensures.fact ∙ ap (λ (rs : List Relation). adding_all OfSums (all_parts image f rs) (fact_in_code c.keep_links_of_chains.new.self)) c.as_slice.ensures.relations
    ∙ ap (λ (x : Fact). adding_all OfSums (all_parts image f f.relations) x) links in
    c.add_all_parts_of_chains.ensures.fact
    ∙ ap (λ cs. adding_all OfSums (all_parts_of_chains f (map chain_of cs)) (fact_in_code c.add_all_parts.new.self)) c.as_slice-2.ensures.value
    ∙ ap (λ (x : Fact). adding_all OfSums (all_parts_of_chains f f.chains) x) parts
    ∙ sym (added_both (all_parts image f f.relations) (all_parts_of_chains f f.chains) linked)
