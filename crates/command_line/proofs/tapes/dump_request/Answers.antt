use Rattle.command_line.proofs.tapes.dump_request.Goals as goal

pub returns : goal.returns
returns c = record {
  tape = c.requires.tape;
  machine = c.in_ok-profile.ensures;
  full = c.is_given-full.ensures;
  once = c.in_ok-read_once.ensures.once;
}
