use Rattle.std.proofs.Common.{ℕ, ◌<◌, List, map, ap, ◌∙◌, arith}
use Rattle.domain.specs.RelationsInCode.{relation_of}
use Rattle.std.specs.Prelude.{flat_map, not}
use Rattle.wordset.specs.Words.{Words, one}
use Rattle.wordset.specs.Lanes.{words}
use Rattle.domain.specs.Locations.{Ac, Cell, is_outside}
use Rattle.domain.specs.Facts.{Relation, Fact, OfEquations}
use Rattle.domain.specs.Adding.{with_name, adding_all}
use Rattle.domain.specs.Moves.{taking}
use Rattle.domain.specs.FactInCode.{fact_in_code}
use Rattle.transfer.specs.Stores.{copied_for}
use Rattle.transfer.proofs.RowsLemmas.{copied_base, changing_one}
use Rattle.transfer.proofs.stores.put_copied.Goals as goal

pub returns : goal.returns
returns g c =
    let y : ℕ = c.args.cell in
    let f : Fact = fact_in_code c.args.fact.now in
    let small : y < 4096 = omega (arith, c.index-index.ensures.same, c.index-index.ensures.small) in
    c.add_each_copied.ensures
    ∙ ap (λ (h : Fact). adding_all OfEquations (flat_map (copied_for y) (map relation_of c.as_slice.result.now)) h)
    (c.set_name-2.ensures.fact ∙ ap (λ (s : Words). with_name Ac s (fact_in_code c.set_name.new.self)) c.one.ensures
    ∙ ap (λ (h : Fact). with_name Ac (one 0) h) (c.set_name.ensures.fact ∙ ap (λ (h : Fact). with_name (Cell y) (words c.args.known.now) h) c.take_without.ensures.fact)
    ∙ copied_base (λ n. not (is_outside (words c.one-cells.result) n)) y (words c.args.known.now) f
    (λ n. ap (λ (s : Words). not (is_outside s n)) c.one-cells.ensures ∙ changing_one y small n))
    ∙ ap (λ (rs : List Relation). adding_all OfEquations (flat_map (copied_for y) rs) (taking Ac (one 0) (taking (Cell y) (words c.args.known.now) f))) (c.as_slice.ensures.relations ∙ c.relations.ensures)
