-- What is promised of a proposal.
use Rattle.std.specs.Prelude.{◌≡◌, ℕ, Bool, ⊤, List, Option, None, is_some, true, false}
use Rattle.instruct.specs.declared.Profile.{Profile}
use Rattle.peripherals.specs.Loading.{image_of}
use Rattle.declaration.specs.Declaration.{IsDeclared}
use Rattle.declaration.specs.DeclarationInCode.{Kept, meaning, routines_of}
use Rattle.declaration.specs.Text.{Declares, ListsRoutines}
use Rattle.policy.specs.Runs.{IsSafe}
use Rattle.certificate_lines.specs.CertificateInCode as certified
use Rattle.certificate_lines.specs.Reading.{Text}
use Rattle.certificate.specs.Exact.{AreLines}
use Rattle.judge.specs.Conditions.{IsValid}
use Rattle.judge.specs.Judged.{judged}
use Rattle.declaration.specs.declared.DeclarationFault.TheVariants as declaration_fault
use Rattle.turns.specs.Counts.{Count}
use Rattle.analyser.specs.Versions.{IsVersionFor}
use Rattle.proposer.specs.declared.Proposal.{Proposal}
use Rattle.proposer.specs.declared.Verdict.{Verdict}
use Rattle.turns.specs.declared.ProposeFault.{ProposeFault}
use Rattle.turns.specs.declared.ProposeFault.TheVariants.{Undeclarable}
use Rattle.proposer.specs.declared.Verdict.TheVariants.{Safe, TurnsSpent}

-- The declaration has this start and is for this machine, it keeps the overlap rules, and the text is one of its texts, with
-- the routines in its order.
pub record Fits {A : Type 0} (at : ℕ) (machine : Profile) (p : Proposal A) : Type 0 where
  pub start : (meaning p.declaration).start ≡ at
  pub profile : (meaning p.declaration).profile ≡ machine
  pub declared : IsDeclared (meaning p.declaration)
  pub text : Declares p.text.items (meaning p.declaration)
  pub routines : ListsRoutines p.text.items (routines_of p.declaration)

-- A certificate in the version of the declared machine, or in version 3.
abbrev pub IsFor : Kept → Text → Type 0
IsFor d text = AreLines text × IsVersionFor (meaning d).profile text.version

-- A certificate is found.
abbrev pub is_safe : {A : Type 0} → Verdict A → Bool
is_safe (Safe c) = true
is_safe _ = false

-- With a certificate the program keeps the declaration in every run, and every condition holds of that certificate.
abbrev pub IsShown : {A : Type 0} → List (Option ℕ) → Kept → Verdict A → Type 0
IsShown image d (Safe c) = IsSafe (image_of image) (meaning d) × IsFor d (certified.meaning c) × IsValid (judged image d (certified.claims c))
IsShown image d _ = ⊤

-- A want of memory is not told as a declaration's fault.
abbrev pub IsTold : ProposeFault → Type 0
IsTold (Undeclarable declaration_fault.NoMemory) = ⊥
IsTold _ = ⊤

-- If the verdict is that the turns are spent, all of them are.
abbrev pub IsSpentUp : {A : Type 0} → Count → Verdict A → Type 0
IsSpentUp turns v = v ≡ TurnsSpent → turns.spent ≡ turns.limit

-- With a certificate the declaration has a list of reads, and without one it has none.
abbrev pub IsListed : {A : Type 0} → Kept → Verdict A → Type 0
IsListed d (Safe c) = is_some (meaning d).reads ≡ true
IsListed d _ = (meaning d).reads ≡ None
