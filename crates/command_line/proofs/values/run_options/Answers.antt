use Rattle.std.proofs.Common.{rules}
use Rattle.command_line.proofs.values.run_options.Goals as goal

pub returns-clause-options : goal.returns-clause-options
returns-clause-options c = record { start = c.in_ok-start.ensures; rounds = search rules; trace = c.is_given.ensures; machine = c.in_ok-profile.ensures }
