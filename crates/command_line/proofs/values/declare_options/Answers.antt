use Rattle.command_line.proofs.values.declare_options.Goals as goal

pub returns : goal.returns
returns c = record { start = c.in_ok-start.ensures; machine = c.in_ok-profile.ensures; reads = c.is_given.ensures }
