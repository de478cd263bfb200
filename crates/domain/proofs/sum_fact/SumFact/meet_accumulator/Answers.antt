use Rattle.std.proofs.Common.{ap, ◌∙◌}
use Rattle.wordset.specs.Words.{Words, meet}
use Rattle.wordset.specs.Lanes.{words}
use Rattle.domain.specs.Locations.{Location}
use Rattle.domain.specs.CellsInCode.{cell_sets_of}
use Rattle.domain.specs.FactInCode.{fact_in_code, names_words}
use Rattle.domain.proofs.FactLemmas.{ac_replaced}
use Rattle.domain.proofs.sum_fact.SumFact.meet_accumulator.Goals as goal

pub returns-clause-fact : goal.returns-clause-fact
returns-clause-fact g c =
    ap (λ (w : Words). record (fact_in_code c.args.self.now) { set = names_words w (cell_sets_of c.args.self.now.cells) }) c.meet-self.ensures
    ∙ ap (λ (w : Location → Words). record (fact_in_code c.args.self.now) { set = w }) (ac_replaced (words c.args.self.now.ac) (meet (words c.args.self.now.ac) (words c.args.set.now)) (cell_sets_of c.args.self.now.cells))
