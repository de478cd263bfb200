use Rattle.std.proofs.Common.{arith}
use Rattle.facts.proofs.SplitLemmas.{told_or_all}
use Rattle.wordset.proofs.SetLemmas.{words_past}
use Rattle.facts.proofs.place.Place.is_split_by_told.Goals as goal

pub returns-clause-left : goal.returns-clause-left
returns-clause-left g c = λ e. told_or_all c.cells_told-told.result (g.F.FactSource.facts c.args.among.now) _ c.cells_told-told.ensures (c.is_split_by_some.ensures.left e)

pub returns-clause-beyond : goal.returns-clause-beyond
returns-clause-beyond g c = c.cells_told-told.ensures 4096 (words_past c.cells_told-told.result 4096 (omega arith))
