-- What `verify` says, and when it is true.
use Rattle.std.specs.Prelude.{ℕ, ◌≡◌, ◌++◌, ⊤, codes, decimal, drop, List, [], Option, Some, None}
use Rattle.word12.specs.Words.{octal_text}
use Rattle.peripherals.specs.Loading.{image_of}
use Rattle.declaration.specs.Declaration.{Declaration}
use Rattle.declaration.specs.Text.{Declares}
use Rattle.policy.specs.declared.rules.Rule.{Rule}
use Rattle.policy.specs.Watching.{number_of}
use Rattle.certificate.specs.Exact.{AreLines}
use Rattle.certificate_lines.specs.CertificateInCode.{meaning}
use Rattle.proposer.specs.Obstacles.{IsObstacle}
use Rattle.proposer.specs.declared.learning.Obstacle.{Obstacle}
use Rattle.refuter.specs.Witnesses.{Breaks, IsLast, IsSpelled}
use Rattle.diagnostics.specs.CheckText.{IsYes, checked_case, yes_text}
use Rattle.command_parts.specs.declared.options.VerifyOptions.{VerifyOptions}
use Rattle.command_parts.specs.declared.status.Status.{Status}
use Rattle.command_parts.specs.declared.status.Status.TheVariants.{Done, Refused}
use Rattle.command_parts.specs.Answers.{OfProgram}
use Rattle.search_commands.specs.declared.verifying.InconclusiveReason.{InconclusiveReason}
use Rattle.search_commands.specs.declared.verifying.InconclusiveReason.TheVariants.{Stuck, TurnsSpent}
use Rattle.search_commands.specs.declared.verifying.Answer.{Answer}
use Rattle.search_commands.specs.declared.verifying.Answer.TheVariants.{Yes, No, NotKnown}
use Rattle.search_commands.specs.declared.verifying.ProposalAnswer.{ProposalAnswer}

-- The answer is true for the words of a tape and a declaration. After a yes, every condition holds for the certificate,
-- and so no run of the program violates the declaration. After a no, the run violates it: its last event is the first
-- step that is not legal, and its text is read as these events. If it is not known, nothing is said.
abbrev pub IsAnswer : {A : Type 0} → List (Option ℕ) → Declaration → Answer A → Type 0
IsAnswer image d (Yes c) = IsYes (checked_case image d (meaning c)) × AreLines (meaning c)
IsAnswer image d (No w) = Breaks (image_of image) d w × IsSpelled w × IsLast w
IsAnswer image d (NotKnown lack) = ⊤

-- The line about a run whose event n violates rule r.
abbrev pub no_text : ℕ → Rule → List ℕ
no_text n r = codes "no: event " ++ decimal n ++ codes " rule " ++ decimal (number_of r) ++ codes "\n"

-- The line that says why the answer is not known.
abbrev pub lack_text : InconclusiveReason → List ℕ
lack_text (Stuck at) = (codes "not known: stuck at " ++ octal_text at) ++ codes "\n"
lack_text TurnsSpent = codes "not known: turns spent" ++ codes "\n"

-- The line of an answer. The line of a yes is that of `check`.
abbrev pub answer_text : {A : Type 0} → Declaration → Answer A → List ℕ
answer_text d (Yes c) = yes_text d
answer_text d (No w) = no_text w.event w.rule
answer_text d (NotKnown lack) = lack_text lack

-- The line of an answer about a proposed declaration, made from the line of the same answer about a given one. In place
-- of its first word, a yes says that it is about the proposal, so that nobody takes it for a yes about a declaration of
-- their own. The other lines are the same.
abbrev pub proposed_text : {A : Type 0} → Answer A → List ℕ → List ℕ
proposed_text (Yes c) line = codes "yes, of the declaration proposed" ++ drop 3 line
proposed_text _ line = line

-- The status of an answer: only a yes is done.
abbrev pub answer_status : {A : Type 0} → Answer A → Status
answer_status (Yes c) = Done
answer_status _ = Refused

-- A no comes with a reason why no declaration allows what the run does, and what `IsObstacle` says of it is true. No other
-- answer has one.
abbrev pub HasReason : {A : Type 0} → List (Option ℕ) → Declaration → Answer A → Option Obstacle → Type 0
HasReason image d (No w) (Some o) = IsObstacle image d w.events.items o
HasReason image d (No w) None = ⊥
HasReason image d (Yes c) (Some o) = ⊥
HasReason image d (Yes c) None = ⊤
HasReason image d (NotKnown l) (Some o) = ⊥
HasReason image d (NotKnown l) None = ⊤

-- The answer is true for the words of a tape and a declaration, and this is its line.
pub record IsVerifiedOf {A : Type 0} (image : List (Option ℕ)) (declaration : Declaration) (answer : Answer A) (line : List ℕ) : Type 0 where
  pub answers : IsAnswer image declaration answer
  pub line_is : line ≡ answer_text declaration answer

-- The frames are a tape and the text is that of a declaration; the answer is true for them, and this is its line.
abbrev pub IsVerified : {A : Type 0} → Option (List ℕ) → Option (List ℕ) → Answer A → List ℕ → Type 0
IsVerified frames text answer line = OfProgram frames text IsVerifiedOf answer line

-- The proposed text declares a program with the requested start, on the requested machine, and the answer is true for
-- the words and for what is declared. The line of the answer comes first; after it comes what is told of the reason, if
-- there is one.
pub record IsProposedAnswerOf {A : Type 0} (options : VerifyOptions) (image : List (Option ℕ)) (p : ProposalAnswer A) (line : List ℕ) : Type 0 where
  pub declaration : Declaration
  pub declares : Declares p.text.items declaration
  pub start_is : declaration.start ≡ options.start
  pub profile_is : declaration.profile ≡ options.profile
  pub answers : IsAnswer image declaration p.answer
  pub reason : HasReason image declaration p.answer p.obstacle
  pub told : List ℕ
  pub untold : p.obstacle ≡ None → told ≡ []
  pub line_is : line ≡ proposed_text p.answer (answer_text declaration p.answer) ++ told
