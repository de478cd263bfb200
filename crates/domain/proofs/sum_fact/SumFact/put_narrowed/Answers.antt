use Rattle.std.proofs.Common.{◌≡◌, ◌∙◌, List, ap, sym, map, ◌&&◌}
use Rattle.std.specs.List.{list_all}
use Rattle.peripherals.specs.Loading.{image_of}
use Rattle.wordset.specs.Lanes.{words}
use Rattle.domain.specs.LocationsInCode.{location_of}
use Rattle.domain.specs.Facts.{Fact, Relation, OfSums}
use Rattle.domain.specs.Adding.{adding_all}
use Rattle.domain.specs.Narrowing.{narrowed, links_of_chain}
use Rattle.domain.specs.ChainsInCode.{chain_of}
use Rattle.domain.specs.FactInCode.{fact_in_code, all_parts, all_parts_of_chains}
use Rattle.domain.proofs.PartLemmas.{added_both}
use Rattle.domain.proofs.sum_fact.SumFact.put_narrowed.Goals as goal

pub returns : goal.returns
unfolding narrowed
returns g c =
    let f : Fact = fact_in_code c.args.self.now in
    let image = image_of c.args.image.now in
    let linked : Fact = record f { link = λ l. f.link l && list_all (λ d. links_of_chain f d l) f.chains } in
    let parts : words c.keep_for_all_parts.new.place ≡ (adding_all OfSums (all_parts image f f.relations) linked).set (location_of c.args.name.now) =
    c.keep_for_all_parts.ensures linked c.put_set_of.ensures
    ∙ ap (λ (rs : List Relation). (adding_all OfSums (all_parts image f rs) linked).set (location_of c.args.name.now)) c.as_slice.ensures.relations in
    c.keep_for_chains.ensures (adding_all OfSums (all_parts image f f.relations) linked) parts
    ∙ ap (λ cs. (adding_all OfSums (all_parts_of_chains f (map chain_of cs)) (adding_all OfSums (all_parts image f f.relations) linked)).set (location_of c.args.name.now)) c.as_slice-2.ensures.value
    ∙ ap (λ (x : Fact). x.set (location_of c.args.name.now)) (sym (added_both (all_parts image f f.relations) (all_parts_of_chains f f.chains) linked))
