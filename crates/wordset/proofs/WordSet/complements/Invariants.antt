use Rattle.std.proofs.Common.{◌≡◌, ◌<◌, ◌-◌, ℕ, get_or}
use Rattle.std.specs.Int.{bit_at}
use Rattle.wordset.specs.Lanes.{AreLanes}
use Rattle.wordset.proofs.WordSet.complements.Given as goal

abbrev pub invariant-loop-i : goal.invariant-loop-i
invariant-loop-i l = record {
  are : AreLanes l.lanes;
  done : (k : ℕ) → k < l.i → (j : ℕ) → j < 64 → bit_at (get_or l.lanes k 0) j ≡ bit_at (get_or l.self-inside.lanes (63 - k) 0) (63 - j);
}
