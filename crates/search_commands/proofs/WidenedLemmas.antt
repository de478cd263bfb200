-- What is settled about a proposal is settled about the one before it.
use Rattle.std.proofs.Common.{ℕ, ◌≡◌, ◌∙◌, List, Option, subst}
use Rattle.peripherals.specs.declared.Event.{Event}
use Rattle.declaration.specs.DeclarationInCode.{Kept, meaning}
use Rattle.proposer.specs.Obstacles.{IsObstacle}
use Rattle.proposer.specs.declared.learning.Obstacle.{Obstacle}
use Rattle.refuter.specs.declared.Witness.{Witness}
use Rattle.search_commands.specs.VerifyText.{IsAnswer}
use Rattle.search_commands.specs.WidenedSearch.{IsBroken, IsSettled}
use Rattle.search_commands.specs.declared.verifying.Answer.TheVariants.{No}
use Rattle.search_commands.specs.declared.widening.FinalProposal.{FinalProposal}

pub settled_before : {A : Type 0} (image : List (Option ℕ)) (first given : Kept) (s : FinalProposal A) → (meaning given).start ≡ (meaning first).start → (meaning given).profile ≡ (meaning first).profile →
    IsSettled image given s → IsSettled image first s
settled_before image first given s start profile settled = record {
  start_is = settled.start_is ∙ start;
  profile_is = settled.profile_is ∙ profile;
  text = settled.text;
  answers = settled.answers;
  reason = settled.reason;
}

-- The run that is reported violates the declaration, and what is reported about its events is true.
pub broken_by : {A : Type 0} (image : List (Option ℕ)) (given : Kept) (w : Witness A) (o : Obstacle) (events : List Event) → events ≡ w.events.items → IsAnswer image (meaning given) (No w) → IsObstacle image (meaning given) events o →
    IsBroken image given w o
broken_by image given w o events same answers obstacle = record {
  answers = answers;
  obstacle = subst (λ (es : List Event). IsObstacle image (meaning given) es o) same obstacle;
}
