use Rattle.std.proofs.Common.{ap}
use Rattle.std.specs.Prelude.{is_some}
use Rattle.command_line.proofs.RefusalLemmas.{place_refused}
use Rattle.command_line.proofs.place_options.shown_on.Goals as goal

pub returns-in-Err : goal.returns-in-Err
returns-in-Err c = place_refused c.args.found.now c.args.places.now _ (c.requires.tape (ap is_some c.in-Some.is)) c.requires.places c.in-Err.ensures
