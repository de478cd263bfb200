use Rattle.std.proofs.Common.{ap, sym, ◌∙◌}
use Rattle.wordset.specs.Words.{Words}
use Rattle.wordset.specs.Lanes.{words}
use Rattle.domain.specs.Terms.{Sum}
use Rattle.domain.specs.Facts.{OfEquations}
use Rattle.domain.specs.Adding.{adding}
use Rattle.domain.specs.InCode.{sum_of}
use Rattle.domain.specs.FactInCode.{fact_in_code}
use Rattle.transfer.specs.Stores.{with_cell_for_ac}
use Rattle.transfer.specs.Shaped.{told}
use Rattle.transfer.proofs.stores.add_copied_for.Goals as goal

pub returns-clause-fact : goal.returns-clause-fact
returns-clause-fact g c =
    rw (sym c.has_accumulator.ensures ∙ c.if-not-has_accumulator.false, sym c.names.ensures ∙ c.if-names.false)
    (c.add.ensures.fact ∙ ap (λ (s : Sum). adding OfEquations (told s (words c.put.new.place)) (fact_in_code c.args.after.now)) c.with_cell_for_accumulator.ensures
    ∙ ap (λ (w : Words). adding OfEquations (told (with_cell_for_ac c.args.cell (sum_of c.args.relation.now.sum)) w) (fact_in_code c.args.after.now)) c.put.ensures)
