use Rattle.command_line.proofs.operator.teletype_options.Goals as goal

pub returns-clause-options : goal.returns-clause-options
returns-clause-options c = record {
  start = c.in_ok-start.ensures;
  machine = c.in_ok-profile.ensures;
  switches = c.in_ok-switches.ensures;
  raw = c.is_given.ensures;
  mark = c.is_given-2.ensures;
}
