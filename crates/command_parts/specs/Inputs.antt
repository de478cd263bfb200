-- What a command read, as far as a source tells its bytes; and what became of a source that was read.
use Rattle.std.specs.Prelude.{ℕ, ◌≡◌, ◌≤◌, ◌<◌, Bool, true, IfSome, List, Option, length, take}
use Rattle.streams.specs.Bytes.{Gave}
use Rattle.bin_tape.specs.Tape.{IsTape}
use Rattle.bin_tape.specs.Serving.{IsUnanswered as IsUnansweredTape, IsPrompt as IsPromptTape}
use Rattle.peripherals.specs.declared.Event.{Event}
use Rattle.peripherals.specs.EventText.{Spells}
use Rattle.declaration.specs.Declaration.{Declaration}
use Rattle.declaration.specs.Text.{Declares}

-- The frames are a tape with this image, whose trailer is within the limit of what is looked at.
abbrev pub HasImage : Option (List ℕ) → List (Option ℕ) → Type 0
HasImage frames image = IfSome frames (λ bytes. IsTape (take 65536 bytes) image)

-- The text spells these events.
abbrev pub HasEvents : Option (List ℕ) → List Event → Type 0
HasEvents text events = IfSome text (λ bytes. Spells bytes events)

-- The text has this declaration.
abbrev pub HasDeclaration : Option (List ℕ) → Declaration → Type 0
HasDeclaration text declaration = IfSome text (λ bytes. Declares bytes declaration)

-- The frames are a tape.
pub record IsGoodTape (frames : Option (List ℕ)) : Type 0 where
  pub image : List (Option ℕ)
  pub tape : HasImage frames image

-- The text is that of a declaration.
pub record IsGoodDeclaration (text : Option (List ℕ)) : Type 0 where
  pub declaration : Declaration
  pub declares : HasDeclaration text declaration

-- The text is that of a list of events.
pub record IsGoodEvents (text : Option (List ℕ)) : Type 0 where
  pub events : List Event
  pub spelled : HasEvents text events

-- A source that was read: whether a read failed, what it had, and what it has left.
pub record Input : Type 0 where
  pub failed : Bool
  pub had : Option (List ℕ)
  pub left : Option (List ℕ)

-- A source that was read, made of whether a read failed, what it had, and what it has left.
abbrev pub input : Bool → Option (List ℕ) → Option (List ℕ) → Input
input failed had left = record { failed = failed; had = had; left = left }

-- A read of a tape failed, and the frames given before it bring no answer: no trailer has come, and another is looked at.
pub record FailsInTape (tape : Input) : Type 0 where
  pub failed : tape.failed ≡ true
  pub unanswered : Gave tape.had tape.left IsUnansweredTape

-- A read of a text failed, and so many bytes at most were given before it: the text may still be short enough.
pub record FailsInText (most : ℕ) (text : Input) : Type 0 where
  pub failed : text.failed ≡ true
  pub short : Gave text.had text.left (λ given. length given ≤ most)

-- Some byte of it has come: before that no memory is wanted for it.
abbrev pub HasCome : Input → Type 0
HasCome text = Gave text.had text.left (λ given. 0 < length given)

-- These are the first bytes of a source, so many at most.
abbrev pub AreFirst : ℕ → Option (List ℕ) → List ℕ → Type 0
AreFirst most had first = IfSome had (λ bytes. first ≡ take most bytes)

-- A read failed before so many bytes had come.
pub record FailsBefore (most : ℕ) (bytes : Input) : Type 0 where
  pub failed : bytes.failed ≡ true
  pub short : Gave bytes.had bytes.left (λ given. length given < most)

-- So many bytes at most are taken of a source, whatever the answer.
abbrev pub TakesAtMost : ℕ → Option (List ℕ) → Option (List ℕ) → Type 0
TakesAtMost most had left = Gave had left (λ given. length given ≤ most)

-- Of a tape no more bytes are taken than are looked at and one, which tells that another follows, and at most 511 past the
-- one that brings the answer.
pub record TakesTape (had left : Option (List ℕ)) : Type 0 where
  pub limit : TakesAtMost 65537 had left
  pub prompt : Gave had left (IsPromptTape 511)
