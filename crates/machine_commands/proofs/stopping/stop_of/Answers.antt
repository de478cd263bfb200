use Rattle.std.proofs.Common.{rules, ◌≡◌}
use Rattle.peripherals.specs.World.{view, profile_of}
use Rattle.machine_commands.specs.Running.{fresh}
use Rattle.machine_commands.proofs.stopping.stop_of.Goals as goal

pub returns : goal.returns
returns g c =
    let profile : profile_of c.load-world.result ≡ c.args.options.now.profile = c.load-world.ensures.profile in
    let begins : view c.load-world.result ≡ fresh c.args.image.now c.args.options.now.start = search rules in
    rw (profile, begins) at c.stop_in.ensures
