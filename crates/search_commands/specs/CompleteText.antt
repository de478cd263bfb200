-- What is written for a declaration to which what is missing is added.
use Rattle.std.specs.Prelude.{ℕ, ◌≡◌, ◌<◌, ◌⊎◌, Bool, true, false, List, Option}
use Rattle.peripherals.specs.Loading.{image_of}
use Rattle.declaration.specs.Declaration.{Declaration}
use Rattle.declaration.specs.Text.{Declares}
use Rattle.policy.specs.Runs.{IsSafe}
use Rattle.command_parts.specs.declared.status.Status.{Status}
use Rattle.command_parts.specs.declared.status.Status.TheVariants.{Done, Refused}
use Rattle.search_commands.specs.Adding.{AddsOnly, IsNoWider, lists}
use Rattle.search_commands.specs.Keeping.{KeepsLines}

-- The text declares a program, and its declaration extends the given one: everything that the given one allows is still
-- allowed, and more may be. Since no cell is in two bodies, no entry is in a body or is a variable, and no stop is a
-- pause, a cell that has one of these roles keeps it. What is to hold at places and at returns is in lines of its own: the
-- text keeps the lines of the given text.
pub record IsExtension (bytes : List ℕ) (given : Declaration) (text : List ℕ) : Type 0 where
  pub declaration : Declaration
  pub declares : Declares text declaration
  pub extends : IsNoWider declaration given
  pub keeps : KeepsLines bytes text

-- The second declaration lists no reads that the first does not list.
abbrev pub AddsNoReads : Declaration → Declaration → Type 0
AddsNoReads given more = (a : ℕ) → a < 4096 → lists more.reads a ≡ true → lists given.reads a ≡ true

-- The declaration of the text extends the given one, and the text keeps the lines of the given text. Reads are added to
-- a list only if that is requested. If the command is done, no run of the program with these words violates the
-- declaration of the text.
pub record Completes (bytes : List ℕ) (reads : Bool) (image : List (Option ℕ)) (given : Declaration) (status : Status) (text : List ℕ) : Type 0 where
  pub is : IsExtension bytes given text
  pub unlisted : reads ≡ false → AddsNoReads given is.declaration
  pub ends : (status ≡ Done) ⊎ (status ≡ Refused)
  pub safe : status ≡ Done → IsSafe (image_of image) is.declaration

-- The text declares this, which extends the given declaration by nothing but what is proposed, and it keeps the lines of
-- the given text.
pub record IsExtensionBy (bytes : List ℕ) (given proposed more : Declaration) (text : List ℕ) : Type 0 where
  pub declares : Declares text more
  pub extends : IsNoWider more given
  pub adds : AddsOnly given proposed more
  pub keeps : KeepsLines bytes text

-- The text declares something that extends the given declaration so.
abbrev pub IsFit : List ℕ → Declaration → Declaration → List ℕ → Type 0
IsFit bytes given proposed text = (more : Declaration) × IsExtensionBy bytes given proposed more text

-- The text is fit. If the command is done, no run of the program with these words violates what the text declares.
pub record CompletesBy (bytes : List ℕ) (image : List (Option ℕ)) (given proposed : Declaration) (status : Status) (text : List ℕ) : Type 0 where
  pub is : IsFit bytes given proposed text
  pub ends : (status ≡ Done) ⊎ (status ≡ Refused)
  pub safe : status ≡ Done → IsSafe (image_of image) is.0
