use Rattle.declaration.specs.Written.{StaysInFront}
use Rattle.control_flow.proofs.text.push_low_offsets.Given as goal

abbrev pub invariant-loop-offset : goal.invariant-loop-offset
invariant-loop-offset g l = StaysInFront l.initial.text.items l.text.items
