-- What a command does with its inputs and its output: which inputs it reads, in which order and how far, which fault it tells,
-- what it writes, and what a fault leaves.
use Rattle.std.specs.Prelude.{ℕ, ◌≡◌, ◌⊎◌, Bool, true, false, Result, Err, IfOk, IfErr, OnErr, List, Option, ⊤}
use Rattle.peripherals.specs.declared.Event.{Event}
use Rattle.declaration.specs.Declaration.{Declaration}
use Rattle.command_parts.specs.declared.status.Fault.{Fault}
use Rattle.command_parts.specs.declared.status.Fault.TheVariants as fault
use Rattle.command_parts.specs.Faults.{IsDeclarationInputFault, IsEventsInputFault, IsTapeInputFault, IsWriteFault, fails_to_read, fails_to_write}
use Rattle.command_parts.specs.Inputs.{HasDeclaration, HasEvents, HasImage, Input, IsGoodDeclaration, IsGoodEvents, IsGoodTape, TakesAtMost, TakesTape}
use Rattle.command_parts.specs.Writes.{FrontOf, Writes}

-- The frames are a tape and the text is that of a declaration; the answer about them and what is written are right.
pub record OfProgram {T : Type 0} (frames text : Option (List ℕ)) (IsRight : List (Option ℕ) → Declaration → T → List ℕ → Type 0) (answer : T) (written : List ℕ) : Type 0 where
  pub image : List (Option ℕ)
  pub tape : HasImage frames image
  pub declaration : Declaration
  pub declares : HasDeclaration text declaration
  pub is : IsRight image declaration answer written

-- The frames are a tape, the texts are those of a declaration and of events; the answer about them and what is written are right.
pub record OfRun {T : Type 0} (frames text list : Option (List ℕ)) (IsRight : List (Option ℕ) → Declaration → List Event → T → List ℕ → Type 0) (answer : T) (written : List ℕ) : Type 0 where
  pub image : List (Option ℕ)
  pub tape : HasImage frames image
  pub declaration : Declaration
  pub declares : HasDeclaration text declaration
  pub events : List Event
  pub spells : HasEvents list events
  pub is : IsRight image declaration events answer written

-- The output of a command: whether a write failed, what its sink told before the command, and what it tells after it.
pub record Output : Type 0 where
  pub failed : Bool
  pub old : Option (List ℕ)
  pub new : Option (List ℕ)

-- The output of a command, made of whether a write failed, what its sink told before, and what it tells after it.
abbrev pub output : Bool → Option (List ℕ) → Option (List ℕ) → Output
output failed old new = record { failed = failed; old = old; new = new }

-- What a command writes and what a fault leaves of it, where it is given which texts are right for an answer.
pub record WritesAnswer {T : Type 0} (IsRight : T → List ℕ → Type 0) (out : Output) (result : Result T Fault) : Type 0 where
  -- with an answer, a text that is right for it was appended
  pub written : IfOk result (λ answer. Writes (IsRight answer) out.old out.new)
  -- where a write failed, a prefix of a text that is right for some answer was appended
  pub front : out.failed ≡ true → FrontOf (λ text. (answer : T) × IsRight answer text) out.old out.new
  -- after any other fault the output is as it was
  pub nothing : OnErr result (out.failed ≡ false → out.new ≡ out.old)
  -- a write failed if and only if the fault says so
  pub marks : out.failed ≡ fails_to_write result

-- The fault is one of the work that follows good inputs, or a write failed.
abbrev pub IsLaterFault : (Fault → Type 0) → Fault → Type 0
IsLaterFault IsOfWork fault = IsOfWork fault ⊎ IsWriteFault fault

-- No fault is one of the work: a command whose inputs are good does its work.
abbrev pub NeverFails : Fault → Type 0
NeverFails fault = ⊥

-- Memory was refused.
abbrev pub IsMemoryFault : Fault → Type 0
IsMemoryFault f = f ≡ fault.NoMemory

-- The command ends at an input: it has this fault, a read of it failed if and only if the fault says so, and nothing after it
-- is touched.
pub record EndsAt {T : Type 0} (IsFault : Input → Fault → Type 0) (one : Input) (untouched : Type 0) (result : Result T Fault) : Type 0 where
  pub fault : Fault
  pub is : result ≡ Err fault
  pub has : IsFault one fault
  pub marks : one.failed ≡ fails_to_read result
  pub rest : untouched

-- The command goes on after an input: it is good, no read of it failed, and of the rest this is true.
pub record GoesOn {T : Type 0} (IsGood : Option (List ℕ) → Type 0) (one : Input) (Rest : Result T Fault → Type 0) (result : Result T Fault) : Type 0 where
  pub good : IsGood one.had
  pub marks : one.failed ≡ false
  pub rest : Rest result

-- How a command reads an input and then goes on, where it is given which faults such an input has, when it is good, how much of it
-- is taken at most, that nothing after it is touched, and what the command does after a good one. It ends at the input or goes on
-- after it, so its fault is that of the first input that has one, no input is touched after one that is refused or whose read
-- failed, and memory that is refused is wanted for an input only while it is read, or after all.
pub record Reads {T : Type 0} (IsFault : Input → Fault → Type 0) (IsGood : Option (List ℕ) → Type 0) (Takes : Option (List ℕ) → Option (List ℕ) → Type 0)
    (one : Input) (untouched : Type 0) (Rest : Result T Fault → Type 0) (result : Result T Fault) : Type 0 where
  -- it is not read past its limit
  pub takes : Takes one.had one.left
  -- the command ends here, or goes on
  pub ends : EndsAt IsFault one untouched result ⊎ GoesOn IsGood one Rest result

-- All inputs are good: a fault is one of these.
abbrev pub FailsBy : {T : Type 0} → (Fault → Type 0) → Result T Fault → Type 0
FailsBy IsLater result = IfErr result IsLater

-- How a command reads a tape, with what comes after it.
abbrev pub ReadsTape : {T : Type 0} → Input → Type 0 → (Result T Fault → Type 0) → Result T Fault → Type 0
ReadsTape tape untouched Rest result = Reads IsTapeInputFault IsGoodTape TakesTape tape untouched Rest result

-- Of a declaration's text no more is taken than it may have and one byte more.
abbrev pub TakesDeclaration : Option (List ℕ) → Option (List ℕ) → Type 0
TakesDeclaration had left = TakesAtMost 16385 had left

-- How a command reads a declaration, with what comes after it.
abbrev pub ReadsDeclaration : {T : Type 0} → Input → Type 0 → (Result T Fault → Type 0) → Result T Fault → Type 0
ReadsDeclaration text untouched Rest result = Reads IsDeclarationInputFault IsGoodDeclaration TakesDeclaration text untouched Rest result

-- Of a text of events no more is taken than it may have and one byte more.
abbrev pub TakesEvents : Option (List ℕ) → Option (List ℕ) → Type 0
TakesEvents had left = TakesAtMost 65537 had left

-- How a command reads a text of events, with what comes after it.
abbrev pub ReadsEvents : {T : Type 0} → Input → Type 0 → (Result T Fault → Type 0) → Result T Fault → Type 0
ReadsEvents list untouched Rest result = Reads IsEventsInputFault IsGoodEvents TakesEvents list untouched Rest result

-- How a command reads a tape alone.
abbrev pub ReadsOne : {T : Type 0} → (Fault → Type 0) → Input → Result T Fault → Type 0
ReadsOne IsLater tape result = ReadsTape tape ⊤ (FailsBy IsLater) result

-- How a command reads a tape and a declaration.
abbrev pub ReadsTwo : {T : Type 0} → (Fault → Type 0) → Input → Input → Type 0 → Result T Fault → Type 0
ReadsTwo IsLater tape text untouched result = ReadsTape tape untouched (ReadsDeclaration text ⊤ (FailsBy IsLater)) result

-- How a command reads a tape, a declaration and a text of events.
abbrev pub ReadsRun : {T : Type 0} → (Fault → Type 0) → Input → Input → Input → Type 0 → Type 0 → Result T Fault → Type 0
ReadsRun IsLater tape text list text_untouched list_untouched result =
    ReadsTape tape (text_untouched × list_untouched) (ReadsDeclaration text list_untouched (ReadsEvents list ⊤ (FailsBy IsLater))) result
