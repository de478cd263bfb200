use Rattle.command_line.proofs.InputLemmas.{tape_alone}
use Rattle.command_line.proofs.tapes.run_request.Goals as goal

pub returns : goal.returns
returns c = record {
  tape = c.requires.tape;
  events = c.get_str.ensures;
  options = c.in_ok-options.ensures.options;
  long = c.is_given-long.ensures;
  once = c.in_ok-read_once.ensures.once;
  shown = rw c.in_ok-options.ensures.shown c.in_ok-show.ensures;
  stopping = c.in_ok-stopping.ensures;
}

pub shown_on-requires-clause-tape : goal.shown_on-requires-clause-tape
shown_on-requires-clause-tape c = λ is. tape_alone _ _ _ c.requires.tape is

pub stopping_on-requires-clause-tape : goal.stopping_on-requires-clause-tape
stopping_on-requires-clause-tape c = λ is. tape_alone _ _ _ c.requires.tape is
