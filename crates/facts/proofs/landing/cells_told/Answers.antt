use Rattle.std.proofs.Common.{ap, sym, subst, ◌∙◌, arith}
use Rattle.std.proofs.Math.ListN.{drop_of_length-le}
use Rattle.wordset.specs.Words.{Words}
use Rattle.domain.specs.Locations.{Location, Cell}
use Rattle.domain.specs.TrackedCells.{tracked}
use Rattle.domain.specs.FactInCode.{fact_in_code}
use Rattle.facts.specs.Landing.{AllowAll}
use Rattle.facts.proofs.SplitLemmas.{told_step, still_out}
use Rattle.facts.proofs.landing.cells_told.Goals as goal

pub loop-at-preserved : goal.loop-at-preserved
loop-at-preserved g c = λ a out. told_step (Cell a) (g.F.FactSource.facts c.args.among.now) c.loop-at.at (fact_in_code c.put.new.fact) (omega (arith, c.loop-at-test.true, c.len-at-end.ensures)) c.put.ensures
    (sym (ap (λ (s : Location → Words). s (Cell a)) c.cells.ensures) ∙ ap (tracked a) (sym c.as_slice.ensures.cells) ∙ c.add_cells.ensures.told a out)
    (c.loop-at.invariant a (still_out _ _ (c.add_cells.ensures.kept a) out))

pub returns : goal.returns
returns g c = λ a out. c.loop-at.invariant a out (subst (AllowAll (Cell a)) (sym (drop_of_length-le (g.F.FactSource.facts c.args.among.now) {i = c.loop-at.at} (omega (arith, c.loop-at-test.false, c.len-at-end.ensures)))) tt)
