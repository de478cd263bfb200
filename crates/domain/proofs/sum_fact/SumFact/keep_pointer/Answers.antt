use Rattle.std.proofs.Common.{◌*◌, ◌%◌, ◌&&◌, ap, ◌∙◌}
use Rattle.wordset.specs.Words.{Words, meet, plus, some_below}
use Rattle.wordset.specs.Lanes.{words}
use Rattle.peripherals.specs.Loading.{image_of}
use Rattle.domain.specs.Locations.{Cell, tape_word}
use Rattle.domain.specs.CellsInCode.{cell_sets_of}
use Rattle.domain.specs.FactInCode.{fact_in_code}
use Rattle.domain.proofs.PartLemmas.{names_past, name_added}
use Rattle.domain.proofs.sum_fact.SumFact.keep_pointer.Goals as goal

pub returns-clause-fact : goal.returns-clause-fact
returns-clause-fact g c =
    let told : Words = λ v. some_below 4096 (λ w. tape_word (image_of c.args.image.now (plus v c.args.more)) w && words c.args.set.now ((c.args.c * w) % 4096)) in
    c.set_name.ensures.fact ∙ name_added (fact_in_code c.args.self.now) (Cell c.args.cell) told (words c.keep_pointing.new.place)
    (names_past c.args.self.now.ac (cell_sets_of c.args.self.now.cells) (Cell c.args.cell))
    (c.keep_pointing.ensures ∙ ap (λ (w : Words). meet w told) c.put_set_of.ensures)
