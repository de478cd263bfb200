use Rattle.std.proofs.Common.{◌<◌, ◌≤◌, length, sym, ap, ◌∙◌, arith}
use Rattle.wordset.specs.Words.{Words}
use Rattle.domain.specs.Adding.{lacks_all}
use Rattle.domain.specs.CellsInCode.{cell_sets_of, cell_set_of}
use Rattle.domain.proofs.VoidLemmas.{one_lacks, one_further, none_further}
use Rattle.domain.proofs.sum_fact.SumFact.has_empty_cell.Goals as goal

pub returns-then-is_empty : goal.returns-then-is_empty
returns-then-is_empty g c =
    let small : c.entry-item.result.cell < 4096 = omega (arith, c.index-index.ensures.small, c.index-index.ensures.same) in
    sym (one_lacks (cell_sets_of c.args.self.now.cells) c.entry-item.result.cell small
    (ap (λ (s : Words). lacks_all s) (sym c.put_set_of.ensures) ∙ sym c.is_empty.ensures ∙ c.if-is_empty.true))

pub loop-entry-preserved : goal.loop-entry-preserved
loop-entry-preserved g c =
    one_further cell_set_of c.as_slice-entry-items.result.now (cell_sets_of c.args.self.now.cells) c.loop-entry.entry-index c.entry-item.result c.as_slice-entry-items.ensures.cells c.loop-entry-test.true c.entry-item.is
    (ap (λ (s : Words). lacks_all s) (sym c.put_set_of.ensures) ∙ sym c.is_empty.ensures ∙ c.if-is_empty.false) c.loop-entry.invariant

pub returns : goal.returns
returns g c =
    let past : length c.as_slice-entry-items.result.now ≤ c.loop-entry.entry-index = omega (arith, c.loop-entry-test.false) in
    sym (none_further cell_set_of c.as_slice-entry-items.result.now (cell_sets_of c.args.self.now.cells) c.loop-entry.entry-index c.as_slice-entry-items.ensures.cells past c.loop-entry.invariant)
