use Rattle.std.proofs.Common.{◌≡◌, rules}
use Rattle.peripherals.specs.Loading.{image_of, loaded}
use Rattle.declaration.specs.DeclarationInCode.{meaning}
use Rattle.command_parts.specs.Messages.{plain}
use Rattle.machine_commands.specs.Running.{fresh}
use Rattle.machine_commands.proofs.WatchLemmas.{is_seen}
use Rattle.machine_commands.proofs.stopped_watch.watch_of.Goals as goal

pub returns-clause-told : goal.returns-clause-told
returns-clause-told g c =
    let image = c.args.image.now in
    let d = meaning c.args.declaration.now in
    let begins : loaded (image_of image) d.start c.zero.result ≡ fresh image d.start = search rules in
    record {
      watched = c.in_ok-watched.watched;
      sees = is_seen image d c.args.events.now c.in_ok-watched.watched (loaded (image_of image) d.start c.zero.result) begins c.in_ok-watched.ensures.clean c.in_ok-watched.ensures.broken;
      is = record {
        is_line = c.in_ok-lines.ensures;
        why = plain c.in_ok-details.details;
        unexplained = c.in_ok-details.ensures;
        shown = c.in_ok-shown.shown.items;
        shows = c.in_ok-shown.ensures;
        details_is = search rules;
      };
      status_is = c.watched_status-status.ensures;
    }
