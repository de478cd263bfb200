use Rattle.std.proofs.Common.{◌≡◌, ◌≤◌}
use Rattle.run_search.proofs.shorten.take_out_inputs.Given as goal

abbrev pub invariant-loop-try : goal.invariant-loop-try
invariant-loop-try g l = record {
  limit : l.turns.limit ≡ l.initial.turns.limit;
  rises : l.initial.turns.spent ≤ l.turns.spent;
  within : l.turns.spent ≤ l.turns.limit;
}
