use Rattle.command_line.proofs.operator.session_options.Goals as goal

pub returns-clause-options : goal.returns-clause-options
returns-clause-options c = record { run = c.in_ok-run.ensures.options; switches = c.in_ok-switches.ensures; mark = c.is_given.ensures }
