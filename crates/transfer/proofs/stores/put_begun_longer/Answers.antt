use Rattle.std.proofs.Common.{◌≡◌, ◌++◌, List, length, map, sym, ap, ◌∙◌, arith}
use Rattle.std.proofs.lemmas.List.{length-map}
use Rattle.wordset.specs.Words.{Words}
use Rattle.wordset.specs.Links.{links_of}
use Rattle.domain.specs.Chains.{Chain, longer, all_longer}
use Rattle.domain.specs.Facts.{Relation, Fact}
use Rattle.domain.specs.ChainsInCode.{step_of, chain_of}
use Rattle.domain.specs.RelationsInCode.{relation_of}
use Rattle.domain.specs.FactInCode.{fact_in_code}
use Rattle.transfer.specs.Stores.{all_begun}
use Rattle.transfer.specs.Shaped.{begun_beside}
use Rattle.transfer.proofs.EachRelation.{map_append}
use Rattle.transfer.proofs.stores.put_begun_longer.Goals as goal

pub push_each_begun-requires : goal.push_each_begun-requires
push_each_begun-requires g c =
    let chains : length c.lengthen_chains.new.self.chains.items ≡ length c.args.fact.now.chains.items =
    sym (length-map c.lengthen_chains.new.self.chains.items chain_of) ∙ ap (λ (h : Fact). length h.chains) c.lengthen_chains.ensures
    ∙ length-map (map chain_of c.args.fact.now.chains.items) (longer (step_of c.args.step.now)) ∙ length-map c.args.fact.now.chains.items chain_of in
    let relations : length c.as_slice.result.now ≡ length (fact_in_code c.args.fact.now).relations =
    sym (length-map c.as_slice.result.now relation_of) ∙ ap (λ (rs : List Relation). length rs) (c.as_slice.ensures.relations ∙ c.relations.ensures) in
    omega (arith, chains, relations, c.requires.room)

pub returns-in-OfSums : goal.returns-in-OfSums
returns-in-OfSums g c =
    let f : Fact = fact_in_code c.args.fact.now in
    let whole : List Chain → List Chain → Words → List Relation → Fact = λ first beside links rs.
    record (fact_in_code c.args.after.now) { chains = first ++ all_longer (step_of c.args.step.now) (begun_beside beside (all_begun links rs)) } in
    record {
      fact = rw c.in-OfSums.is (c.push_each_begun.ensures
          ∙ ap (λ (h : Fact). record h { chains = h.chains ++ all_longer (step_of c.args.step.now) (begun_beside (map chain_of c.chains.result.now) (all_begun (links_of c.link.result) (map relation_of c.as_slice.result.now))) }) c.lengthen_chains.ensures
          ∙ ap (λ (cs : List Chain). whole (all_longer (step_of c.args.step.now) f.chains) cs (links_of c.link.result) (map relation_of c.as_slice.result.now)) c.chains.ensures.chains
          ∙ ap (λ (k : Words). whole (all_longer (step_of c.args.step.now) f.chains) f.chains k (map relation_of c.as_slice.result.now)) c.link.ensures
          ∙ ap (λ (rs : List Relation). whole (all_longer (step_of c.args.step.now) f.chains) f.chains f.link rs) (c.as_slice.ensures.relations ∙ c.relations.ensures)
          ∙ ap (λ (cs : List Chain). record (fact_in_code c.args.after.now) { chains = cs }) (sym (map_append (longer (step_of c.args.step.now)) f.chains (begun_beside f.chains (all_begun f.link f.relations)))));
    }

pub returns-in-OfEquations : goal.returns-in-OfEquations
returns-in-OfEquations g c = record { fact = rw c.in-OfEquations.is c.clear_chains.ensures.fact }
