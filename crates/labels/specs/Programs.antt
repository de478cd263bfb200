-- A source and its declaration as a tape and a declaration in numbers.
use Rattle.std.specs.Prelude.{ℕ, ◌≡◌, List, Option, Ok, Err, take}
use Rattle.instruct.specs.declared.Profile.{Profile}
use Rattle.bin_tape.specs.Image.{IsEmptyImage}
use Rattle.bin_tape.specs.Refuses.{Refuses}
use Rattle.bin_tape.specs.Tape.{IsTape}
use Rattle.bin_tape.specs.Written.{written_tape}
use Rattle.bin_tape.specs.declared.fault.TapeFault.{TapeFault}
use Rattle.declaration.specs.Declaration.{Declaration}
use Rattle.declaration.specs.Text.{Declares}
use Rattle.pal_text.specs.declared.names.Name.{Name}
use Rattle.pal_acts.specs.Permanent.{permanent_symbols}
use Rattle.pal_asm.specs.Sources.{Means, IsFault}
use Rattle.labels.specs.Lines.{placed_text}
use Rattle.labels.specs.Within.{machine}
use Rattle.labels.specs.declared.fault.PlaceFault.{PlaceFault}
use Rattle.labels.specs.declared.fault.PlaceFault.TheVariants.{BadLine, NoSymbol, PastMemory, Backwards, TooMany}
use Rattle.labels.specs.declared.fault.PlaceFault.TheVariants as place
use Rattle.labels.specs.declared.program.NumberingFault.{NumberingFault}
use Rattle.labels.specs.declared.program.NumberingFault.TheVariants.{Source, EmptyImage, Placing}
use Rattle.labels.specs.declared.program.NumberingFault.TheVariants as fault

-- These parts mean these symbols and this image, on the machine that the declaration names.
pub record MeansFor (parts : List (List ℕ)) (declaration : List ℕ) (symbols : List (Name × ℕ)) (image : List (Option ℕ)) : Type 0 where
  pub means : Means (permanent_symbols (machine declaration)) parts symbols image

-- The tape is the one that is written of the image that the parts mean, which has a word. The declaration in numbers is what
-- the declaration means by the symbols of the parts.
pub record IsNumbered (parts : List (List ℕ)) (declaration tape numbers : List ℕ) : Type 0 where
  pub symbols : List (Name × ℕ)
  pub image : List (Option ℕ)
  pub source : MeansFor parts declaration symbols image
  pub has_word : IsEmptyImage image → ⊥
  pub tape_is : tape ≡ written_tape image
  pub placed : placed_text symbols declaration ≡ Ok numbers

-- The parts mean an image without a word.
pub record MeansNoWord (parts : List (List ℕ)) (declaration : List ℕ) : Type 0 where
  pub symbols : List (Name × ℕ)
  pub image : List (Option ℕ)
  pub source : MeansFor parts declaration symbols image
  pub empty : IsEmptyImage image

-- The parts mean an image with a word, and the declaration has no place in numbers by their symbols, with this fault.
pub record IsUnplaced (parts : List (List ℕ)) (declaration : List ℕ) (fault : PlaceFault) : Type 0 where
  pub symbols : List (Name × ℕ)
  pub image : List (Option ℕ)
  pub source : MeansFor parts declaration symbols image
  pub has_word : IsEmptyImage image → ⊥
  pub is : placed_text symbols declaration ≡ Err fault

-- Why there is no tape of an image: it has no word, or memory was refused.
abbrev pub IsEmptyFault : List (Option ℕ) → NumberingFault → Type 0
IsEmptyFault image EmptyImage = IsEmptyImage image
IsEmptyFault image fault.NoMemory = Unit {0}
IsEmptyFault image _ = ⊥

-- Why parts mean nothing on a machine: their fault, or that memory was refused.
abbrev pub IsSourceFault : Profile → List (List ℕ) → NumberingFault → Type 0
IsSourceFault profile parts (Source fault) = IsFault (permanent_symbols profile) parts fault
IsSourceFault profile parts fault.NoMemory = Unit {0}
IsSourceFault profile parts _ = ⊥

-- What a fault of a declaration is for a source and its declaration.
abbrev pub placing_fault : PlaceFault → NumberingFault
placing_fault (BadLine n) = Placing (BadLine n)
placing_fault (NoSymbol n) = Placing (NoSymbol n)
placing_fault (PastMemory n) = Placing (PastMemory n)
placing_fault (Backwards n) = Placing (Backwards n)
placing_fault TooMany = Placing TooMany
placing_fault place.NoMemory = fault.NoMemory

-- Why a source and its declaration are refused: the fault of the source; that it has no word; the fault of the declaration
-- by its symbols; or that memory was refused.
abbrev pub IsNumberingFault : List (List ℕ) → List ℕ → NumberingFault → Type 0
IsNumberingFault parts declaration (Source fault) = IsFault (permanent_symbols (machine declaration)) parts fault
IsNumberingFault parts declaration EmptyImage = MeansNoWord parts declaration
IsNumberingFault parts declaration (Placing fault) = IsUnplaced parts declaration fault
IsNumberingFault parts declaration fault.NoMemory = Unit {0}

-- The parts mean this image, which has a word; and by their symbols the declaration is one in numbers that declares this.
pub record IsProgram (parts : List (List ℕ)) (text : List ℕ) (image : List (Option ℕ)) (declaration : Declaration) : Type 0 where
  pub symbols : List (Name × ℕ)
  pub source : MeansFor parts text symbols image
  pub has_word : IsEmptyImage image → ⊥
  pub numbers : List ℕ
  pub placed : placed_text symbols text ≡ Ok numbers
  pub declares : Declares numbers declaration

-- Whatever is read of the tape, of which 65,536 frames are looked at, and of the declaration in numbers is the program that the
-- parts and the declaration mean.
abbrev pub NumberedIsMeant : Type 0
NumberedIsMeant =
    (parts : List (List ℕ)) (text tape numbers : List ℕ) (image : List (Option ℕ)) (declaration : Declaration) →
    IsNumbered parts text tape numbers → IsTape (take 65536 tape) image → Declares numbers declaration →
    IsProgram parts text image declaration

-- The tape is not refused.
abbrev pub NumberedIsTape : Type 0
NumberedIsTape =
    (parts : List (List ℕ)) (text tape numbers : List ℕ) (fault : TapeFault) →
    IsNumbered parts text tape numbers → Refuses 65536 tape fault → ⊥
