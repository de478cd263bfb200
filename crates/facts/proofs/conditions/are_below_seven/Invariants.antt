use Rattle.std.proofs.Common.{◌≡◌, ◌<◌, ◌≤◌, ℕ, false}
use Rattle.domain.specs.Offsets.{offsets_in}
use Rattle.facts.proofs.conditions.are_below_seven.Given as goal

abbrev pub invariant-loop-o : goal.invariant-loop-o
invariant-loop-o l = (k : ℕ) → 7 ≤ k → k < l.o → offsets_in l.offsets k ≡ false
