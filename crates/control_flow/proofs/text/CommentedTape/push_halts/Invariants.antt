use Rattle.declaration.specs.Written.{StaysInFront}
use Rattle.control_flow.proofs.text.CommentedTape.push_halts.Given as goal

abbrev pub invariant-loop-at : goal.invariant-loop-at
invariant-loop-at g l = StaysInFront l.initial.text.items l.text.items
