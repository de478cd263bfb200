use Rattle.std.proofs.Common.{rules, ◌≡◌}
use Rattle.peripherals.specs.Loading.{image_of, loaded}
use Rattle.peripherals.specs.World.{view}
use Rattle.declaration.specs.DeclarationInCode.{meaning}
use Rattle.policy.specs.Watching.{LeadsTo}
use Rattle.machine_commands.specs.Continued.{SaysHowFar}
use Rattle.machine_commands.specs.Running.{fresh}
use Rattle.machine_commands.proofs.continuing.how_far_line.Goals as goal

pub returns-in_ok-went_line-in-Clean : goal.returns-in_ok-went_line-in-Clean
returns-in_ok-went_line-in-Clean g c =
    let image = c.args.image.now in
    let d = meaning c.args.declaration.now in
    let events = c.args.events.now in
    let world = view c.in_ok-world-in-Clean.world in
    let begins : loaded (image_of image) d.start c.zero-start.result ≡ fresh image d.start = search rules in
    let leads : LeadsTo d events (fresh image d.start) world = rw begins at c.in_ok-world-in-Clean.ensures.run in
    let line : SaysHowFar c.args.continues image d events c.in_ok-went_line-in-Clean.field-0.items = record {
      final = world;
      leads = leads;
      line_is = rw c.presses.ensures at c.in_ok-went_line-in-Clean.ensures;
    } in
    rw c.in-Clean.is line
