use Rattle.pal_asm.specs.SourceInCode.{lines_of_fronts}
use Rattle.pal_asm.proofs.Turned.{Came}
use Rattle.pal_asm.proofs.reading.read_parts.Given as goal

abbrev pub invariant-loop-at : goal.invariant-loop-at
invariant-loop-at g l = Came l.parts l.at l.radix l.acts (lines_of_fronts l.fronts.items)
