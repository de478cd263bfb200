use Rattle.std.proofs.Common.{◌≡◌, ◌≤◌}
use Rattle.run_search.proofs.shorten.halve_inputs.Given as goal

abbrev pub invariant-loop-halving : goal.invariant-loop-halving
invariant-loop-halving g l = record {
  limit : l.turns.limit ≡ l.initial.turns.limit;
  rises : l.initial.turns.spent ≤ l.turns.spent;
  within : l.turns.spent ≤ l.turns.limit;
}
