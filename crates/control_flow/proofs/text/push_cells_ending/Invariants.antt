use Rattle.declaration.specs.Written.{StaysInFront}
use Rattle.control_flow.proofs.text.push_cells_ending.Given as goal

abbrev pub invariant-loop-first : goal.invariant-loop-first
invariant-loop-first g l = StaysInFront l.initial.text.items l.text.items
