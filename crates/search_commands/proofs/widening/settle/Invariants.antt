use Rattle.std.proofs.Common.{◌≡◌}
use Rattle.declaration.specs.DeclarationInCode.{meaning}
use Rattle.declaration.specs.Text.{Declares}
use Rattle.proposer.specs.Proposals.{IsShown}
use Rattle.search_commands.proofs.widening.settle.Given as goal

abbrev pub invariant-loop-widening : goal.invariant-loop-widening
invariant-loop-widening g l = record {
  start_is : (meaning l.proposal.declaration).start ≡ (meaning l.initial.proposal.declaration).start;
  profile_is : (meaning l.proposal.declaration).profile ≡ (meaning l.initial.proposal.declaration).profile;
  text : Declares l.proposal.text.items (meaning l.proposal.declaration);
  shown : IsShown l.image l.proposal.declaration l.proposal.verdict;
}
