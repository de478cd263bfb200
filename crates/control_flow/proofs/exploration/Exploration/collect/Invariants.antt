use Rattle.std.proofs.Common.{◌≡◌}
use Rattle.control_flow.proofs.exploration.Exploration.collect.Given as goal

abbrev pub invariant-loop-offset : goal.invariant-loop-offset
invariant-loop-offset g l = l.self.declaration ≡ l.initial.self.declaration
