use Rattle.std.proofs.Common.{rules, ◌≡◌}
use Rattle.wordset.specs.Lanes.{words}
use Rattle.peripherals.specs.Loading.{image_of, loaded}
use Rattle.peripherals.specs.World.{view}
use Rattle.declaration.specs.DeclarationInCode.{meaning}
use Rattle.machine_commands.specs.Running.{fresh}
use Rattle.machine_commands.proofs.WatchLemmas.{cells_after}
use Rattle.machine_commands.proofs.shown_cells.cells_after.Goals as goal

pub returns : goal.returns
returns g c =
    let d = meaning c.args.declaration.now in
    let begins : loaded (image_of c.args.image.now) d.start c.zero-start.result ≡ fresh c.args.image.now d.start = search rules in
    cells_after (words c.args.show.now) c.args.image.now d c.args.events.now (loaded (image_of c.args.image.now) d.start c.zero-start.result) (view c.in_ok-world.world) _ begins c.in_ok-world.ensures.run (search rules)
