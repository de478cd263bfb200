use Rattle.std.proofs.Common.{rules}
use Rattle.command_line.proofs.values.refute_options.Goals as goal

pub returns : goal.returns
returns c = record { steps = search rules; seed = search rules; explained = c.is_given.ensures }
