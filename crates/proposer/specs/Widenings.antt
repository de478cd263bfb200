-- What is promised of a proposal that takes the place of one that a run leaves.
use Rattle.std.specs.Prelude.{ℕ, ◌≡◌, List, Option, ⊤}
use Rattle.instruct.specs.declared.Profile.{Profile}
use Rattle.declaration.specs.DeclarationInCode.{Kept, meaning, routines_of}
use Rattle.declaration.specs.Text.{Declares, ListsRoutines}
use Rattle.peripherals.specs.declared.Event.{Event}
use Rattle.proposer.specs.Obstacles.{IsObstacle}
use Rattle.proposer.specs.Widths.{IsAsWide}
use Rattle.proposer.specs.Proposals.{Fits, IsShown}
use Rattle.proposer.specs.declared.Proposal.{Proposal}
use Rattle.proposer.specs.declared.widening.WrittenDeclaration.{WrittenDeclaration}
use Rattle.proposer.specs.declared.widening.RefinementResult.{RefinementResult}
use Rattle.proposer.specs.declared.widening.RefinementResult.TheVariants.{More}
use Rattle.proposer.specs.declared.widening.Widening.{Widening}
use Rattle.proposer.specs.declared.widening.Widening.TheVariants.{Wider, Never, Unclear}

-- A proposal for the same start and machine, whose text is one of its declaration, and whose declaration is as wide as the
-- given one; where it comes with a certificate, no run of the program breaks it.
pub record Supersedes {A : Type 0} (image : List (Option ℕ)) (given : Kept) (p : Proposal A) : Type 0 where
  pub fits : Fits (meaning given).start (meaning given).profile p
  pub wide : IsAsWide (meaning given) (meaning p.declaration)
  pub shown : IsShown image p.declaration p.verdict

-- What is wider is such a proposal. If it is said that no declaration allows what runs do, so much is true of the reason as
-- `IsObstacle` says of the run of these events. Of what is unclear nothing is said.
abbrev pub IsWidened : {A : Type 0} → List (Option ℕ) → Kept → List Event → Widening A → Type 0
IsWidened image given events (Wider p) = Supersedes image given p
IsWidened image given events (Never o) = IsObstacle image (meaning given) events o
IsWidened image given events Unclear = ⊤

-- The text is one of the declaration, with the routines in its order; it serves private contracts.
pub record IsDrafted {A : Type 0} (d : WrittenDeclaration A) : Type 0 where
  pub text : Declares d.text.items (meaning d.declaration)
  pub routines : ListsRoutines d.text.items (routines_of d.declaration)

-- What is taught is such a draft, if it is more.
abbrev pub IsTaught : {A : Type 0} → RefinementResult A → Type 0
IsTaught (More d) = IsDrafted d
IsTaught _ = ⊤

-- And it is for this machine.
abbrev pub HasProfile : {A : Type 0} → Profile → RefinementResult A → Type 0
HasProfile machine (More d) = (meaning d.declaration).profile ≡ machine
HasProfile machine _ = ⊤
