use Rattle.std.proofs.Common.{◌≡◌, ◌++◌, subst}
use Rattle.std.specs.Prelude.{OnOk}
use Rattle.wordset.specs.Lanes.{words}
use Rattle.processor.specs.Cells.{Cells}
use Rattle.machine_commands.specs.Summary.{cells_below}
use Rattle.machine_commands.proofs.summary.push_shown.Goals as goal

pub returns : goal.returns
returns g c =
    subst (λ (m : Cells). OnOk c.push_cells.result (c.push_cells.new.text.items ≡ c.args.text.now.items ++ cells_below (words c.args.show.now) m 4096)) c.memory_of.ensures c.push_cells.ensures
