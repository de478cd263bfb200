use Rattle.std.proofs.Common.{refl, sym}
use Rattle.command_line.proofs.programs.watched_session_of.Goals as goal

pub returns : goal.returns
returns c = record {
  options = c.in_ok-options.ensures.options;
  reader = c.get_str.ensures;
  keys = c.get_str-2.ensures;
  continues = c.in_ok-continues.ensures;
  explained = c.is_given.ensures;
  tape = c.watched_tape.ensures;
  declaration = c.watched_declaration.ensures;
  shown = c.in_ok-options.ensures.shown;
  stopped = refl;
  list = sym c.if-has_value.ensures;
}
