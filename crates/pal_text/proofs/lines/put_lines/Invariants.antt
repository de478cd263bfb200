use Rattle.pal_text.proofs.LineCounts.{Lined}
use Rattle.pal_text.proofs.lines.put_lines.Given as goal

abbrev pub invariant-loop-at : goal.invariant-loop-at
invariant-loop-at g l = Lined l.bytes l.at l.out.items l.start l.begun l.returned
