-- The text of a tape's image, a line for each word.
use Rattle.std.specs.Prelude.{ℕ, ◌≡◌, Option, Some, None, List, [], ◌++◌, codes}
use Rattle.std.proofs.Common.{zero, suc}
use Rattle.word12.specs.Words.{octal_text}
use Rattle.instruct.specs.declared.Profile.{Profile}
use Rattle.instruct.specs.Names.{name_of}
use Rattle.bin_tape.specs.Image.{word_at}
use Rattle.command_parts.specs.Inputs.{HasImage}

-- The address, the word and its name.
abbrev pub dump_line : Profile → ℕ → Option ℕ → List ℕ
dump_line profile at (Some word) =
    octal_text at ++ codes " " ++ octal_text word ++ codes " " ++ name_of profile word ++ codes "\n"
dump_line profile at None = []

-- The lines of all addresses below a number, rising.
unfoldable pub dump_below : Profile → List (Option ℕ) → ℕ → List ℕ
dump_below profile image zero = []
dump_below profile image (suc at) = dump_below profile image at ++ dump_line profile at (word_at image at)

-- The lines of all 4096 addresses of an image, rising; an address that has no word has no line.
abbrev pub dump_text : Profile → List (Option ℕ) → List ℕ
dump_text profile image = dump_below profile image 4096

-- The frames are a tape, and this is the text of its image.
pub record IsDump (profile : Profile) (frames : Option (List ℕ)) (text : List ℕ) : Type 0 where
  pub image : List (Option ℕ)
  pub tape : HasImage frames image
  pub text_is : text ≡ dump_text profile image
