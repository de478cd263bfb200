use Rattle.std.proofs.Common.{rules, ◌≡◌}
use Rattle.peripherals.specs.Loading.{image_of, loaded}
use Rattle.peripherals.specs.World.{view}
use Rattle.declaration.specs.DeclarationInCode.{meaning}
use Rattle.machine_commands.specs.DeclaredRun.{Traces}
use Rattle.machine_commands.specs.Running.{fresh}
use Rattle.machine_commands.specs.WatchText.{IsSeen, happening}
use Rattle.machine_commands.proofs.WatchLemmas.{is_seen}
use Rattle.machine_commands.proofs.declared_run.lines_before.Goals as goal

pub returns : goal.returns
returns g c =
    let image = c.args.image.now in
    let d = meaning c.args.declaration.now in
    let events = c.args.cut.now.events.now in
    let begins : loaded (image_of image) d.start c.zero-start.result ≡ fresh image d.start = search rules in
    let sees : IsSeen image d events c.in_ok-watched.watched = is_seen image d events c.in_ok-watched.watched (loaded (image_of image) d.start c.zero-start.result) begins c.in_ok-watched.ensures.clean c.in_ok-watched.ensures.broken in
    let from : view c.load-world.result ≡ fresh image d.start = search rules in
    let goes : Traces d (happening c.in_ok-watched.watched events) (fresh image d.start) c.in_ok-run.run'.lines.items c.in_ok-run.run'.steps (view c.go_through.new.world) = rw (c.happening.ensures, from) at c.in_ok-run.ensures.goes in
    record {
      watched = c.in_ok-watched.watched;
      sees = sees;
      lines = c.in_ok-run.run'.lines.items;
      steps = c.in_ok-run.run'.steps;
      final = view c.go_through.new.world;
      goes = goes;
      text_is = search rules;
    }
