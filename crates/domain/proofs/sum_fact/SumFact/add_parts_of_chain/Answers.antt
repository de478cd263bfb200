use Rattle.std.proofs.Common.{◌≡◌, List, length, ◌∙◌, ap, refl, arith}
use Rattle.wordset.specs.Words.{Words, plus, some_below}
use Rattle.wordset.specs.Lanes.{words}
use Rattle.domain.specs.Locations.{Ac, Cell}
use Rattle.domain.specs.Terms.{Sum, Holding, sum_of_name, difference_of}
use Rattle.domain.specs.Chains.{Chain}
use Rattle.domain.specs.Facts.{Fact, Relation, OfSums}
use Rattle.domain.specs.Adding.{adding, with_term_in}
use Rattle.domain.specs.Narrowing.{may_give}
use Rattle.domain.specs.InCode.{sum_of}
use Rattle.domain.specs.CellsInCode.{cell_sets_of}
use Rattle.domain.specs.RelationsInCode.{relations_of}
use Rattle.domain.specs.ChainsInCode.{chain_of}
use Rattle.domain.specs.FactInCode.{fact_in_code}
use Rattle.domain.proofs.PartLemmas.{names_past, known_name, known_sum, difference_told}
use Rattle.domain.proofs.sum_fact.SumFact.add_parts_of_chain.Goals as goal

pub returns-clause-fact : goal.returns-clause-fact
returns-clause-fact g c =
    let own : Fact = fact_in_code c.args.fact.now in
    let d : Chain = chain_of c.args.chain.now in
    let told : Words = λ v. some_below 4096 (λ w. some_below 2 (λ l. may_give own d v w l)) in
    let told2 : Words = λ w. some_below 4096 (λ v. some_below 2 (λ l. may_give own d v w l)) in
    let told3 : Words = λ e. some_below 4096 (λ v. some_below 2 (λ l. may_give own d v (plus v e) l)) in
    let first : fact_in_code c.meet_name.new.self ≡ adding OfSums (record { sum = sum_of_name (Cell d.cell); set = told }) (fact_in_code c.args.self.now) =
    c.meet_name.ensures.fact ∙ ap (λ k. with_term_in (Holding (Cell k)) (words c.words_of_chain-found.result.cells) (fact_in_code c.args.self.now)) c.cell.ensures
    ∙ known_name (fact_in_code c.args.self.now) (Cell d.cell) (words c.words_of_chain-found.result.cells) told
    (names_past c.args.self.now.ac (cell_sets_of c.args.self.now.cells) (Cell d.cell)) c.words_of_chain-found.ensures.cells in
    let second : fact_in_code c.meet_accumulator.new.self ≡ adding OfSums (record { sum = sum_of_name Ac; set = told2 }) (fact_in_code c.meet_name.new.self) =
    c.meet_accumulator.ensures.fact ∙ known_name (fact_in_code c.meet_name.new.self) Ac (words c.words_of_chain-found.result.accumulators) told2
    (names_past c.meet_name.new.self.ac (cell_sets_of c.meet_name.new.self.cells) Ac) c.words_of_chain-found.ensures.accumulators in
    let before : Fact = fact_in_code c.meet_accumulator.new.self in
    let sum : sum_of c.difference.result ≡ difference_of Ac (Cell d.cell) = c.difference.ensures ∙ ap (λ k. difference_of Ac (Cell k)) c.cell.ensures in
    let third : relations_of c.add_longer.new.self ≡ (adding OfSums (record { sum = difference_of Ac (Cell d.cell); set = told3 }) before).relations =
    c.add_longer.ensures.relations before refl
    ∙ ap (λ (s : Sum). (adding OfSums (record { sum = s; set = words c.words_of_chain-found.result.differences }) before).relations) sum
    ∙ ap (λ (x : Fact). x.relations) (known_sum (difference_of Ac (Cell d.cell)) (words c.words_of_chain-found.result.differences) told3 before c.words_of_chain-found.ensures.differences) in
    ap (λ (rs : List Relation). record before { relations = rs }) third ∙ difference_told d.cell told3 before
    ∙ ap (λ (f : Fact). adding OfSums (record { sum = difference_of Ac (Cell d.cell); set = told3 }) f)
    (second ∙ ap (λ (f : Fact). adding OfSums (record { sum = sum_of_name Ac; set = told2 }) f) first)

pub returns-clause-cells : goal.returns-clause-cells
returns-clause-cells g c = omega (arith, c.meet_name.ensures.cells, ap (λ x. length (cell_sets_of x)) c.meet_accumulator.ensures.cells)

pub returns-clause-relations : goal.returns-clause-relations
returns-clause-relations g c =
    omega (arith, c.add_longer.ensures.few, ap (λ x. length (relations_of x)) c.meet_accumulator.ensures.relations, ap (λ x. length (relations_of x)) c.meet_name.ensures.relations)
