-- What `declare` writes.
use Rattle.std.specs.Prelude.{ℕ, ◌≡◌, ◌⊎◌, List, Option, None, is_some, false, true}
use Rattle.peripherals.specs.Loading.{image_of}
use Rattle.declaration.specs.Declaration.{Declaration}
use Rattle.declaration.specs.Text.{Declares}
use Rattle.policy.specs.Runs.{IsSafe}
use Rattle.command_parts.specs.declared.options.DeclareOptions.{DeclareOptions}
use Rattle.command_parts.specs.declared.status.Status.{Status}
use Rattle.command_parts.specs.declared.status.Status.TheVariants.{Done, Refused}

-- The text declares a program with the requested start, on the requested machine.
pub record IsDeclarationFor (options : DeclareOptions) (text : List ℕ) : Type 0 where
  pub declaration : Declaration
  pub declares : Declares text declaration
  pub start_is : declaration.start ≡ options.start
  pub profile_is : declaration.profile ≡ options.profile

-- The text declares a program with the requested start, on the requested machine, and it lists no reads.
abbrev pub IsBare : DeclareOptions → List ℕ → Type 0
IsBare options text = (is : IsDeclarationFor options text) × (is.declaration.reads ≡ None)

-- The text is such a declaration, and the command is done or refused. If it is done, no run of the program with these
-- words violates the declaration. There is a list of reads if the command is done and a list was requested; otherwise
-- there is none.
pub record IsProposalOf (options : DeclareOptions) (image : List (Option ℕ)) (status : Status) (text : List ℕ) : Type 0 where
  pub is : IsDeclarationFor options text
  pub ends : (status ≡ Done) ⊎ (status ≡ Refused)
  pub safe : status ≡ Done → IsSafe (image_of image) is.declaration
  pub unlisted : options.reads ≡ false → is.declaration.reads ≡ None
  pub bare : status ≡ Refused → is.declaration.reads ≡ None
  pub listed : status ≡ Done → options.reads ≡ true → is_some is.declaration.reads ≡ true
