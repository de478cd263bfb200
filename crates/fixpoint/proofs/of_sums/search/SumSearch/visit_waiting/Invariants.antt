use Rattle.std.proofs.Common.{◌≡◌, ◌≤◌}
use Rattle.fixpoint.proofs.of_sums.search.SumSearch.visit_waiting.Given as goal

abbrev pub invariant-loop-index : goal.invariant-loop-index
invariant-loop-index g l = record {
  limit : l.turns.limit ≡ l.initial.turns.limit;
  rises : l.initial.turns.spent ≤ l.turns.spent;
  within : l.turns.spent ≤ l.turns.limit;
}
