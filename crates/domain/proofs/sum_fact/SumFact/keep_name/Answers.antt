use Rattle.std.proofs.Common.{◌*◌, ◌%◌, ap, ◌∙◌}
use Rattle.wordset.specs.Words.{Words, meet}
use Rattle.wordset.specs.Lanes.{words}
use Rattle.domain.specs.LocationsInCode.{location_of}
use Rattle.domain.specs.CellsInCode.{cell_sets_of}
use Rattle.domain.specs.FactInCode.{fact_in_code}
use Rattle.domain.proofs.PartLemmas.{names_past, name_added}
use Rattle.domain.proofs.sum_fact.SumFact.keep_name.Goals as goal

pub returns-clause-fact : goal.returns-clause-fact
returns-clause-fact g c =
    c.set_name.ensures.fact ∙ name_added (fact_in_code c.args.self.now) (location_of c.args.name.now) (λ v. words c.args.set.now ((c.args.c * v) % 4096)) (words c.keep_divided.new.place)
    (names_past c.args.self.now.ac (cell_sets_of c.args.self.now.cells) (location_of c.args.name.now))
    (c.keep_divided.ensures ∙ ap (λ (w : Words). meet w (λ v. words c.args.set.now ((c.args.c * v) % 4096))) c.put_set_of.ensures)
