use Rattle.std.proofs.Common.{◌≡◌}
use Rattle.command_parts.specs.Dumping.{dump_below}
use Rattle.command_parts.proofs.text.dump_of.Given as goal

abbrev pub invariant-loop-index : goal.invariant-loop-index
invariant-loop-index g l = l.text.items ≡ dump_below l.profile l.image l.index
