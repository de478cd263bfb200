-- What is promised while a proposal is widened. These definitions serve private contracts.
use Rattle.std.specs.Prelude.{ℕ, ◌≡◌, List, Option, ⊤}
use Rattle.declaration.specs.DeclarationInCode.{Kept, meaning}
use Rattle.declaration.specs.Text.{Declares}
use Rattle.proposer.specs.Obstacles.{IsObstacle}
use Rattle.proposer.specs.Widenings.{Supersedes}
use Rattle.proposer.specs.declared.learning.Obstacle.{Obstacle}
use Rattle.refuter.specs.declared.Witness.{Witness}
use Rattle.search_commands.specs.VerifyText.{HasReason, IsAnswer}
use Rattle.search_commands.specs.declared.verifying.Answer.TheVariants.{No}
use Rattle.search_commands.specs.declared.widening.Ending.{Ending}
use Rattle.search_commands.specs.declared.widening.Ending.TheVariants.{Open, Broken}
use Rattle.search_commands.specs.declared.widening.WideningStep.{WideningStep}
use Rattle.search_commands.specs.declared.widening.WideningStep.TheVariants.{Wider, Ended}
use Rattle.search_commands.specs.declared.widening.FinalProposal.{FinalProposal}

-- The run that is reported violates the declaration, and what `IsObstacle` says of the reason that is reported is true.
pub record IsBroken {A : Type 0} (image : List (Option ℕ)) (given : Kept) (w : Witness A) (o : Obstacle) : Type 0 where
  pub answers : IsAnswer image (meaning given) (No w)
  pub obstacle : IsObstacle image (meaning given) w.events.items o

-- If a search ended with a run, that run is such a run.
abbrev pub IsEnded : {A : Type 0} → List (Option ℕ) → Kept → Ending A → Type 0
IsEnded image given Open = ⊤
IsEnded image given (Broken w o) = IsBroken image given w o

-- What comes next supersedes the declaration, or what is reported about it is true.
abbrev pub IsNext : {A : Type 0} → List (Option ℕ) → Kept → WideningStep A → Type 0
IsNext image given (Wider p) = Supersedes image given p
IsNext image given (Ended e) = IsEnded image given e

-- The final proposal is for the same start and machine, the text is one of its texts, the answer is true for it, and
-- the answer has a reason if it is a no.
pub record IsSettled {A : Type 0} (image : List (Option ℕ)) (given : Kept) (s : FinalProposal A) : Type 0 where
  pub start_is : (meaning s.declaration).start ≡ (meaning given).start
  pub profile_is : (meaning s.declaration).profile ≡ (meaning given).profile
  pub text : Declares s.text.items (meaning s.declaration)
  pub answers : IsAnswer image (meaning s.declaration) s.answer
  pub reason : HasReason image (meaning s.declaration) s.answer s.obstacle
