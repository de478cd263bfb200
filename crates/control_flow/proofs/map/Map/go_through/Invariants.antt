use Rattle.std.proofs.Common.{◌-◌, ◌≤◌}
use Rattle.control_flow.proofs.map.Map.go_through.Given as goal

abbrev pub invariant-loop-entry : goal.invariant-loop-entry
invariant-loop-entry l = l.next ≤ 4096

abbrev pub decreases-loop-entry : goal.decreases-loop-entry
decreases-loop-entry l = 4096 - l.next
