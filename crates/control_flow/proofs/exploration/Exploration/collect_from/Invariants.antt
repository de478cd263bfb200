use Rattle.std.proofs.Common.{◌≡◌}
use Rattle.control_flow.proofs.exploration.Exploration.collect_from.Given as goal

abbrev pub invariant-loop-at : goal.invariant-loop-at
invariant-loop-at g l = l.self.declaration ≡ l.initial.self.declaration
