use Rattle.std.proofs.Common.{length}
use Rattle.search_commands.specs.Keeping.{AreAdded}
use Rattle.search_commands.proofs.keeping.are_added.Given as goal

-- if the lines that are left are added lines, all lines are
abbrev pub invariant-loop-rest : goal.invariant-loop-rest
invariant-loop-rest l = AreAdded l.rest → AreAdded l.text

abbrev pub decreases-loop-rest : goal.decreases-loop-rest
decreases-loop-rest l = length l.rest
