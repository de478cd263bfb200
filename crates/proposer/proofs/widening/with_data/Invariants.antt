use Rattle.std.proofs.Common.{◌≡◌, ◌≤◌}
use Rattle.proposer.specs.Widenings.{Supersedes}
use Rattle.proposer.proofs.widening.with_data.Given as goal

abbrev pub invariant-loop-cut : goal.invariant-loop-cut
invariant-loop-cut g l = record {
  wider : Supersedes l.image l.given.declaration l.proposal;
  limit : l.turns.limit ≡ l.initial.turns.limit;
  rises : l.initial.turns.spent ≤ l.turns.spent;
  within : l.turns.spent ≤ l.turns.limit;
}
