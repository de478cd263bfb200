-- What `source` writes.
use Rattle.std.specs.Prelude.{ℕ, List, Option}
use Rattle.instruct.specs.declared.Profile.{Profile}
use Rattle.declaration.specs.Declaration.{Declaration}
use Rattle.source_writer.specs.Meaning.{IsSourceOf}
use Rattle.command_parts.specs.Inputs.{HasImage, HasDeclaration}

-- The frames are a tape, and the text is a source that means exactly the image of that tape on this machine.
pub record IsTapeSource (profile : Profile) (frames : Option (List ℕ)) (text : List ℕ) : Type 0 where
  pub image : List (Option ℕ)
  pub tape : HasImage frames image
  pub source : IsSourceOf profile image text

-- The frames are a tape, the promise is the text of a declaration, and the source means the image of the tape on the
-- declared machine.
pub record IsDeclaredSource (frames promise : Option (List ℕ)) (text : List ℕ) : Type 0 where
  pub declaration : Declaration
  pub declares : HasDeclaration promise declaration
  pub source : IsTapeSource declaration.profile frames text
