use Rattle.std.proofs.Common.{◌≡◌, ◌≤◌}
use Rattle.analyser.proofs.sums.found_by_sums.Given as goal

abbrev pub invariant-loop-kind : goal.invariant-loop-kind
invariant-loop-kind g l = record {
  limit : l.turns.limit ≡ l.initial.turns.limit;
  rises : l.initial.turns.spent ≤ l.turns.spent;
  within : l.turns.spent ≤ l.turns.limit;
}
