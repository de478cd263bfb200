use Rattle.std.proofs.Common.{◌≡◌, ◌<◌, ◌≤◌, ◌+◌, ◌*◌, ◌==◌, ◌||◌, ℕ, get_or}
use Rattle.std.specs.Int.{bit_at}
use Rattle.wordset.specs.Words.{between}
use Rattle.wordset.specs.Lanes.{AreLanes}
use Rattle.wordset.proofs.WordSet.insert_range.Given as goal

abbrev pub invariant-loop-i : goal.invariant-loop-i
invariant-loop-i l = record {
  are : AreLanes l.self-inside.lanes;
  done : (k : ℕ) → k < l.i → (j : ℕ) → j < 64 → (bit_at (get_or l.self-inside.lanes k 0) j == 1) ≡ ((bit_at (get_or l.initial.self-inside.lanes k 0) j == 1) || between l.fn.low l.fn.high (64 * k + j));
  rest : (k : ℕ) → l.i ≤ k → get_or l.self-inside.lanes k 0 ≡ get_or l.initial.self-inside.lanes k 0;
}
