use Rattle.std.proofs.Common.{length}
use Rattle.search_commands.specs.Keeping.{KeepsLines}
use Rattle.search_commands.proofs.keeping.keeps_lines.Given as goal

-- if the lines that are left are kept in those that are left of the other text, all lines are kept
abbrev pub invariant-loop-left : goal.invariant-loop-left
invariant-loop-left l = KeepsLines l.left l.rest → KeepsLines l.given l.text

abbrev pub decreases-loop-left : goal.decreases-loop-left
decreases-loop-left l = length l.left
