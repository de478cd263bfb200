use Rattle.declaration.specs.Written.{StaysInFront}
use Rattle.declaration.proofs.writing.push_ranges.Given as goal

abbrev pub invariant-loop-first : goal.invariant-loop-first
invariant-loop-first g l = StaysInFront l.initial.text.items l.text.items
