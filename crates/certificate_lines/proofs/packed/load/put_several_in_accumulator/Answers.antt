use Rattle.std.proofs.Common.{◌∙◌, ap}
use Rattle.wordset.specs.Words.{Words}
use Rattle.domain.specs.CellsInCode.{cell_sets_of}
use Rattle.domain.specs.FactInCode.{fact_in_code, names_words}
use Rattle.certificate_lines.proofs.packed.load.put_several_in_accumulator.Goals as goal

pub returns-clause-fact : goal.returns-clause-fact
returns-clause-fact c = c.set_accumulator.ensures.fact ∙ ap (λ (set : Words). record (fact_in_code c.args.fact.now) { set = names_words set (cell_sets_of c.args.fact.now.cells) }) c.set_in.ensures
