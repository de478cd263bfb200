use Rattle.std.proofs.Common.{◌≡◌, Some, map, rules}
use Rattle.command_line.specs.Options.{sources_given}
use Rattle.command_line.proofs.TaskLemmas.{on_tape, with_source}
use Rattle.command_line.proofs.source_programs.machine_request.Goals as goal

pub returns-in-None : goal.returns-in-None
returns-in-None c = on_tape c.args.called c.args.found.now c.in_ok-task.task (search rules) (record {
  places = c.in_ok-places.places;
  places_are = c.in_ok-places.ensures;
  given = c.in_ok-task.ensures;
})

pub returns : goal.returns
returns c =
    let given : sources_given c.args.found.now ≡ Some (map (λ name. name.now) c.in_ok-parts-in-Some.parts.items) = rw c.in_ok-parts-in-Some.ensures (search rules) in
    with_source c.args.called c.args.found.now _ (map (λ name. name.now) c.in_ok-parts-in-Some.parts.items) given (record {
      parts = given;
      places = c.in_ok-places.ensures;
      task = c.in_ok-task.ensures;
      explained = c.is_given.ensures;
      tape = rw given at c.in_ok-tape_or_source.ensures.alone;
    })
