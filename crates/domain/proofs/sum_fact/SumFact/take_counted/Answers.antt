use Rattle.std.proofs.Common.{◌≡◌, ◌++◌, ◌∙◌, List, length, map, ap, arith}
use Rattle.wordset.specs.Words.{Words, one}
use Rattle.wordset.specs.Lanes.{words}
use Rattle.domain.specs.Locations.{Location, Cell}
use Rattle.domain.specs.Facts.{Fact, Relation}
use Rattle.domain.specs.Adding.{with_set}
use Rattle.domain.specs.Chains.{Chain, after_count}
use Rattle.domain.specs.Moves.{moved_relations}
use Rattle.domain.specs.CellsInCode.{cell_sets_of}
use Rattle.domain.specs.RelationsInCode.{relation_of, relations_of}
use Rattle.domain.specs.ChainsInCode.{chain_of}
use Rattle.domain.specs.FactInCode.{fact_in_code, names_words}
use Rattle.domain.proofs.FactLemmas.{cell_replaced}
use Rattle.domain.proofs.TakenLemmas.{all_moved}
use Rattle.domain.proofs.sum_fact.SumFact.take_counted.Goals as goal

pub returns-clause-fact : goal.returns-clause-fact
returns-clause-fact g c =
    let by = c.from_index-one.result in
    let moved : relations_of c.push_all_moved_by.new.self ≡ moved_relations c.args.cell (one 1) (relations_of c.args.other.now.relations) =
    c.push_all_moved_by.ensures ∙ ap (λ (rs : List Relation). rs ++ moved_relations c.args.cell (one by) (map relation_of c.as_slice.result.now)) (ap (λ (x : Fact). x.relations) c.take_over.ensures.fact)
    ∙ ap (λ b. moved_relations c.args.cell (one b) (map relation_of c.as_slice.result.now)) c.from_index-one.ensures
    ∙ ap (moved_relations c.args.cell (one 1)) c.as_slice.ensures.relations in
    let counted : map chain_of c.count_chains.new.list.items ≡ map (after_count c.args.cell 1) (map chain_of c.args.other.now.chains.items) =
    c.count_chains.ensures ∙ ap (λ b. map (after_count c.args.cell b) (map chain_of c.as_slice-2.result.now)) c.from_index-one.ensures
    ∙ ap (λ cs. map (after_count c.args.cell 1) (map chain_of cs)) c.as_slice-2.ensures.value in
    let sets : names_words (words c.take_over.new.self.ac) (cell_sets_of c.replace.new.self) ≡ with_set (Cell c.args.cell) (words c.args.set.now) (fact_in_code c.args.other.now).set =
    cell_replaced (words c.take_over.new.self.ac) (cell_sets_of c.replace.new.self) (cell_sets_of c.take_over.new.self.cells) c.args.cell (words c.args.set.now) c.replace.ensures.words
    ∙ ap (λ (x : Fact). with_set (Cell c.args.cell) (words c.args.set.now) x.set) c.take_over.ensures.fact in
    ap (λ (s : Location → Words). record (fact_in_code c.take_over.new.self) { set = s; relations = relations_of c.push_all_moved_by.new.self; chains = map chain_of c.count_chains.new.list.items }) sets
    ∙ ap (λ (rs : List Relation). record (fact_in_code c.take_over.new.self) { set = with_set (Cell c.args.cell) (words c.args.set.now) (fact_in_code c.args.other.now).set; relations = rs; chains = map chain_of c.count_chains.new.list.items }) moved
    ∙ ap (λ (cs : List Chain). record (fact_in_code c.take_over.new.self) { set = with_set (Cell c.args.cell) (words c.args.set.now) (fact_in_code c.args.other.now).set; relations = moved_relations c.args.cell (one 1) (relations_of c.args.other.now.relations); chains = cs }) counted
    ∙ ap (λ (x : Fact). record x { set = with_set (Cell c.args.cell) (words c.args.set.now) (fact_in_code c.args.other.now).set; relations = moved_relations c.args.cell (one 1) (relations_of c.args.other.now.relations); chains = map (after_count c.args.cell 1) (map chain_of c.args.other.now.chains.items) }) c.take_over.ensures.fact

pub returns-clause-cells : goal.returns-clause-cells
returns-clause-cells g c = omega (arith, c.replace.ensures.few, ap length c.take_over.ensures.cells)

pub returns-clause-same : goal.returns-clause-same
returns-clause-same g c =
    let moved : relations_of c.push_all_moved_by.new.self ≡ moved_relations c.args.cell (one c.from_index-one.result) (map relation_of c.as_slice.result.now) =
    c.push_all_moved_by.ensures ∙ ap (λ (rs : List Relation). rs ++ moved_relations c.args.cell (one c.from_index-one.result) (map relation_of c.as_slice.result.now)) (ap (λ (x : Fact). x.relations) c.take_over.ensures.fact) in
    ap length moved ∙ ap (λ b. length (moved_relations c.args.cell (one b) (map relation_of c.as_slice.result.now))) c.from_index-one.ensures
    ∙ ap (λ (rs : List Relation). length (moved_relations c.args.cell (one 1) rs)) c.as_slice.ensures.relations
    ∙ all_moved c.args.cell 1 (relations_of c.args.other.now.relations) (omega arith)
