use Rattle.std.proofs.Common.{◌≡◌, ◌≤◌}
use Rattle.fixpoint.proofs.of_sums.search.SumSearch.descend.Given as goal

abbrev pub invariant-loop-sweep : goal.invariant-loop-sweep
invariant-loop-sweep g l = record {
  limit : l.turns.limit ≡ l.initial.turns.limit;
  rises : l.initial.turns.spent ≤ l.turns.spent;
  within : l.turns.spent ≤ l.turns.limit;
}
