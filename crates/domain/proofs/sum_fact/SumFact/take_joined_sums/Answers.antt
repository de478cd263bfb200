use Rattle.std.proofs.Common.{◌≡◌, ◌++◌, ◌∙◌, List, map, ap}
use Rattle.std.specs.Prelude.{if◌then◌else◌}
use Rattle.wordset.specs.Words.{Words}
use Rattle.wordset.specs.Lanes.{words}
use Rattle.wordset.specs.Links.{links_of}
use Rattle.domain.specs.Locations.{Ac, is_outside}
use Rattle.domain.specs.TrackedCells.{TrackedCell}
use Rattle.domain.specs.Facts.{Fact, Relation, OfSums}
use Rattle.domain.specs.Adding.{adding_all}
use Rattle.domain.specs.Moves.{outside, words_outside}
use Rattle.domain.specs.Brief.{brief_words}
use Rattle.domain.specs.CellsInCode.{cell_sets_of, cell_set_of, cells_outside}
use Rattle.domain.specs.RelationsInCode.{relation_of, relations_of}
use Rattle.domain.specs.ChainsInCode.{chain_of}
use Rattle.domain.specs.FactInCode.{fact_in_code, names_words}
use Rattle.domain.proofs.JoinedLemmas.{sums_sets, sums_joined}
use Rattle.domain.proofs.sum_fact.SumFact.take_joined_sums.Goals as goal

pub returns : goal.returns
returns g c =
    let w : Words = words c.args.written.now in
    let call : Fact = fact_in_code c.args.call.now in
    let exit : Fact = fact_in_code c.args.exit.now in
    let cells : cell_sets_of c.push_all.new.self ≡ cells_outside w (cell_sets_of c.args.call.now.cells) ++ cell_sets_of c.args.exit.now.cells =
    c.push_all.ensures ∙ ap (λ (xs : List TrackedCell). xs ++ map cell_set_of c.as_slice-2.result.now)
    (c.push_outside.ensures.cells ∙ ap (λ (xs : List TrackedCell). xs ++ cells_outside w (map cell_set_of c.as_slice.result.now)) c.take_over_rest.ensures.cells ∙ ap (cells_outside w) c.as_slice.ensures.cells)
    ∙ ap (λ (ys : List TrackedCell). cells_outside w (cell_sets_of c.args.call.now.cells) ++ ys) c.as_slice-2.ensures.cells in
    let sets : names_words (words c.take_over_rest.new.self.ac) (cell_sets_of c.push_all.new.self) ≡ (λ n. if is_outside w n then words_outside OfSums (call.set n) (exit.set n) else exit.set n) =
    ap (names_words (words c.take_over_rest.new.self.ac)) cells
    ∙ ap (λ (a : Words). names_words a (cells_outside w (cell_sets_of c.args.call.now.cells) ++ cell_sets_of c.args.exit.now.cells)) (ap (λ (x : Fact). x.set Ac) c.take_over_rest.ensures.fact)
    ∙ sums_sets (words c.args.exit.now.ac) (words c.args.call.now.ac) c.args.written.now (cell_sets_of c.args.call.now.cells) (cell_sets_of c.args.exit.now.cells) in
    let had : relations_of c.push_all-2.new.self ≡ exit.relations =
    c.push_all-2.ensures ∙ ap (λ (rs : List Relation). rs ++ map relation_of c.as_slice-3.result.now) (ap (λ (x : Fact). x.relations) c.take_over_rest.ensures.fact) ∙ c.as_slice-3.ensures.relations in
    let relations : relations_of c.add_outside.new.self ≡ (adding_all OfSums (outside w call.relations) exit).relations =
    c.add_outside.ensures exit had ∙ ap (λ (rs : List Relation). (adding_all OfSums (outside w rs) exit).relations) c.as_slice-4.ensures.relations in
    sums_joined (names_words (words c.take_over_rest.new.self.ac) (cell_sets_of c.push_all.new.self)) (relations_of c.add_outside.new.self) (map chain_of c.copy_chains.new.to.items)
    (words c.take_over_rest.new.self.mq) (links_of c.take_over_rest.new.self.link) (brief_words c.copy_from.new.self) call exit w sets relations
    (c.copy_chains.ensures ∙ ap (map chain_of) c.as_slice-5.ensures.value)
    (ap (λ (x : Fact). x.mq) c.take_over_rest.ensures.fact) (ap (λ (x : Fact). x.link) c.take_over_rest.ensures.fact) c.copy_from.ensures
