use Rattle.std.proofs.Common.{◌≡◌, ◌++◌, ◌∙◌, List, length, map, ap, arith}
use Rattle.std.proofs.lemmas.List.{length-map}
use Rattle.domain.specs.Facts.{Fact, Relation}
use Rattle.domain.specs.Chains.{Chain}
use Rattle.domain.specs.Moves.{free_of, chains_free_of}
use Rattle.domain.specs.Naming.{names_of}
use Rattle.domain.specs.RelationsInCode.{relation_of, relations_of}
use Rattle.domain.specs.ChainsInCode.{chain_of}
use Rattle.domain.specs.FactInCode.{fact_in_code}
use Rattle.domain.proofs.sum_fact.SumFact.take_without.Goals as goal

pub returns-clause-fact : goal.returns-clause-fact
returns-clause-fact g c =
    let free : relations_of c.push_free_of.new.self ≡ free_of (names_of c.args.names.now) (relations_of c.args.other.now.relations) =
    c.push_free_of.ensures.relations ∙ ap (λ (rs : List Relation). rs ++ free_of (names_of c.args.names.now) (map relation_of c.as_slice.result.now)) (ap (λ (x : Fact). x.relations) c.take_over.ensures.fact)
    ∙ ap (free_of (names_of c.args.names.now)) c.as_slice.ensures.relations in
    let chains : map chain_of c.keep_chains_free_of.new.list.items ≡ chains_free_of (names_of c.args.names.now) (map chain_of c.args.other.now.chains.items) =
    c.keep_chains_free_of.ensures ∙ ap (λ cs. chains_free_of (names_of c.args.names.now) (map chain_of cs)) c.as_slice-2.ensures.value in
    ap (λ (rs : List Relation). record (fact_in_code c.take_over.new.self) { relations = rs; chains = map chain_of c.keep_chains_free_of.new.list.items }) free
    ∙ ap (λ (cs : List Chain). record (fact_in_code c.take_over.new.self) { relations = free_of (names_of c.args.names.now) (relations_of c.args.other.now.relations); chains = cs }) chains
    ∙ ap (λ (x : Fact). record x { relations = free_of (names_of c.args.names.now) (relations_of c.args.other.now.relations); chains = chains_free_of (names_of c.args.names.now) (map chain_of c.args.other.now.chains.items) }) c.take_over.ensures.fact

pub returns-clause-fewer : goal.returns-clause-fewer
returns-clause-fewer g c =
    let none : length (relations_of c.take_over.new.self.relations) ≡ 0 = ap (λ (x : Fact). length x.relations) c.take_over.ensures.fact in
    let all : length (map relation_of c.as_slice.result.now) ≡ length (relations_of c.args.other.now.relations) = ap length c.as_slice.ensures.relations in
    omega (arith, none, all, c.push_free_of.ensures.few, length-map c.as_slice.result.now relation_of)
