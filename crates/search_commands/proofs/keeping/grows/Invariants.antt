use Rattle.std.proofs.Common.{length}
use Rattle.search_commands.specs.Keeping.{Grows}
use Rattle.search_commands.proofs.keeping.grows.Given as goal

-- if what is left has grown to what is left of the other line, the whole line has grown
abbrev pub invariant-loop-behind : goal.invariant-loop-behind
invariant-loop-behind l = Grows l.left l.rest → Grows l.old l.new

abbrev pub decreases-loop-behind : goal.decreases-loop-behind
decreases-loop-behind l = length l.rest
