use Rattle.std.proofs.Common.{◌≡◌, ◌≤◌, None, true}
use Rattle.declaration.specs.DeclarationInCode.{meaning}
use Rattle.proposer.specs.Proposals.{Fits, IsShown, IsSpentUp, is_safe}
use Rattle.proposer.proofs.cut_down.Given as goal

abbrev pub invariant-loop-cut : goal.invariant-loop-cut
invariant-loop-cut g l = record {
  fits : Fits l.map.start l.map.profile l.proposal;
  unlisted : (meaning l.proposal.declaration).reads ≡ None;
  shown : IsShown l.tape.image.now l.proposal.declaration l.proposal.verdict;
  safe : is_safe l.initial.proposal.verdict ≡ true → is_safe l.proposal.verdict ≡ true;
  spent : IsSpentUp l.turns l.proposal.verdict;
  limit : l.turns.limit ≡ l.initial.turns.limit;
  rises : l.initial.turns.spent ≤ l.turns.spent;
  within : l.turns.spent ≤ l.turns.limit;
}
