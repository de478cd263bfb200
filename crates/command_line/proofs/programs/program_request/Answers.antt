use Rattle.std.proofs.Common.{refl}
use Rattle.command_line.proofs.InputLemmas.{tape_only}
use Rattle.command_line.proofs.programs.program_request.Goals as goal

pub returns : goal.returns
returns c = record {
  operands = c.in_ok-operands.operands;
  program_is = refl;
  declaration_is = refl;
  given = c.in_ok-operands.ensures;
  followed = c.in_ok-followed.followed;
  followed_is = c.in_ok-followed.ensures;
  task = c.in_ok-task.ensures.given;
  once = c.in_ok-task.ensures.once;
  places = c.in_ok-places.ensures;
  named = c.is_start_named.ensures;
  start = c.in_ok-task.ensures.start;
  explained = c.is_given.ensures;
}

pub followed_on-requires-clause-tape : goal.followed_on-requires-clause-tape
followed_on-requires-clause-tape c = λ is. tape_only c.args.called c.args.found.now _ _ _ c.in_ok-operands.ensures is
