use Rattle.std.proofs.Common.{◌≡◌, ◌≤◌}
use Rattle.fixpoint.proofs.of_sums.search.SumSearch.visit_each.Given as goal

abbrev pub invariant-loop-at : goal.invariant-loop-at
invariant-loop-at g l = record {
  limit : l.turns.limit ≡ l.initial.turns.limit;
  rises : l.initial.turns.spent ≤ l.turns.spent;
  within : l.turns.spent ≤ l.turns.limit;
}
