use Rattle.std.proofs.Common.{◌∙◌, List, [], ap}
use Rattle.wordset.specs.Words.{Words, one}
use Rattle.wordset.specs.Lanes.{words}
use Rattle.domain.specs.Locations.{Location, Ac}
use Rattle.domain.specs.Facts.{Fact, Relation}
use Rattle.domain.specs.Adding.{with_name}
use Rattle.domain.specs.CellsInCode.{cell_sets_of}
use Rattle.domain.specs.Moves.{weakly_updated_sets}
use Rattle.domain.specs.FactInCode.{fact_in_code}
use Rattle.domain.proofs.FactLemmas.{ac_replaced}
use Rattle.domain.proofs.TakenLemmas.{free_of_both}
use Rattle.domain.proofs.sum_fact.SumFact.take_deposited_among.Goals as goal

pub returns : goal.returns
returns g c =
    let f : Fact = fact_in_code c.args.other.now in
    ap (λ (s : Location → Words). record (fact_in_code c.take_changed.new.self) { set = s })
    (ac_replaced (words c.take_changed.new.self.ac) (words c.one-self.result) (cell_sets_of c.take_changed.new.self.cells))
    ∙ ap (λ (s : Words). with_name Ac s (fact_in_code c.take_changed.new.self)) c.one-self.ensures
    ∙ ap (with_name Ac (one 0)) c.take_changed.ensures
    ∙ ap (λ (rs : List Relation). with_name Ac (one 0) (record f { set = λ n. weakly_updated_sets (words c.args.among.now) (λ a. words c.args.set.now) f.set n; relations = rs; chains = [] }))
    (free_of_both (words c.args.among.now) f.relations)
