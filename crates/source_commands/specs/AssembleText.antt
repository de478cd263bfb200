-- What `assemble` and `list` write, and why they may have no answer.
use Rattle.std.specs.Prelude.{ℕ, ◌≡◌, ◌++◌, Bool, true, false, List, Option, codes, length}
use Rattle.instruct.specs.declared.Profile.{Profile}
use Rattle.bin_tape.specs.Image.{IsEmptyImage}
use Rattle.bin_tape.specs.Tape.{IsTape}
use Rattle.bin_tape.specs.Written.{written_tape}
use Rattle.pal_text.specs.declared.names.Name.{Name}
use Rattle.pal_acts.specs.Permanent.{permanent_symbols}
use Rattle.pal_asm.specs.Listings.{Lists}
use Rattle.pal_asm.specs.Sources.{Means, IsFault}
use Rattle.pal_asm.specs.declared.fault.PalFault.{PalFault}
use Rattle.command_parts.specs.declared.status.Fault.{Fault}
use Rattle.command_parts.specs.declared.status.Fault.TheVariants.{EmptyImage, Source, Device}
use Rattle.command_parts.specs.declared.status.Fault.TheVariants as fault
use Rattle.command_parts.specs.declared.status.DeviceFault.TheVariants.{Read, Write}
use Rattle.source_commands.specs.SourceTexts.{AreRead, is_bad_number, FailsToReadPart}

-- The sources, whose bytes are given as far as they are known, are read as these parts, which mean these symbols and
-- this image.
pub record Assembles (profile : Profile) (sources : List (Option (List ℕ))) (symbols : List (Name × ℕ)) (image : List (Option ℕ)) : Type 0 where
  pub parts : List (List ℕ)
  pub read : AreRead sources parts
  pub means : Means (permanent_symbols profile) parts symbols image

-- The sources are assembled, and this is the tape of their image, which has at least one word. The tape reads back as
-- that image.
pub record IsAssembled (profile : Profile) (sources : List (Option (List ℕ))) (tape : List ℕ) : Type 0 where
  pub symbols : List (Name × ℕ)
  pub image : List (Option ℕ)
  pub assembles : Assembles profile sources symbols image
  pub has_word : IsEmptyImage image → ⊥
  pub tape_is : tape ≡ written_tape image
  pub reads_back : IsTape (written_tape image) image

-- The sources mean an image and have this listing.
pub record IsListing (profile : Profile) (sources : List (Option (List ℕ))) (text : List ℕ) : Type 0 where
  pub symbols : List (Name × ℕ)
  pub image : List (Option ℕ)
  pub parts : List (List ℕ)
  pub read : AreRead sources parts
  pub means : Means (permanent_symbols profile) parts symbols image
  pub lists : Lists (permanent_symbols profile) parts symbols text

-- The text is this listing, then an empty line, then a table.
pub record HasTable (listing text : List ℕ) : Type 0 where
  pub table : List ℕ
  pub text_is : text ≡ listing ++ codes "\n" ++ table

-- The text is the listing of the sources, then an empty line, then a table.
pub record IsCrossListing (profile : Profile) (sources : List (Option (List ℕ))) (text : List ℕ) : Type 0 where
  pub listing : List ℕ
  pub is : IsListing profile sources listing
  pub crossed : HasTable listing text

-- What is written for a listing: the listing itself or, if that is requested, the listing with a table.
abbrev pub IsListed : Bool → Profile → List (Option (List ℕ)) → List ℕ → Type 0
IsListed false profile sources text = IsListing profile sources text
IsListed true profile sources text = IsCrossListing profile sources text

-- The sources mean an image without words.
pub record MeansNothing (profile : Profile) (sources : List (Option (List ℕ))) : Type 0 where
  pub symbols : List (Name × ℕ)
  pub image : List (Option ℕ)
  pub assembles : Assembles profile sources symbols image
  pub empty : IsEmptyImage image

-- The parts that the sources hold have this fault.
pub record HasFault (profile : Profile) (sources : List (Option (List ℕ))) (fault : PalFault) : Type 0 where
  pub parts : List (List ℕ)
  pub read : AreRead sources parts
  pub is : IsFault (permanent_symbols profile) parts fault

-- Why the parts of a source are not assembled.
abbrev pub IsAssemblyFault : Profile → List (List ℕ) → Fault → Type 0
IsAssemblyFault profile parts (Source fault) = IsFault (permanent_symbols profile) parts fault
IsAssemblyFault profile parts fault.NoMemory = Unit {0}
IsAssemblyFault profile parts _ = ⊥

-- Why a source has no listing. The sources have these marks, had these bytes, and have those bytes left. A failed read,
-- and memory that was refused, are reported only if there is a valid number of sources.
abbrev pub IsListFault : Profile → List Bool → List (Option (List ℕ)) → List (Option (List ℕ)) → Fault → Type 0
IsListFault profile marks sources left (Source fault) = HasFault profile sources fault
IsListFault profile marks sources left (Device Read) = FailsToReadPart marks sources left
IsListFault profile marks sources left (Device Write) = Unit {0}
IsListFault profile marks sources left fault.NoMemory = is_bad_number (length sources) ≡ false
IsListFault profile marks sources left _ = ⊥

-- Why a source has no tape: it has no listing for the same reason, or its image has no words.
abbrev pub IsSourceFault : Profile → List Bool → List (Option (List ℕ)) → List (Option (List ℕ)) → Fault → Type 0
IsSourceFault profile marks sources left EmptyImage = MeansNothing profile sources
IsSourceFault profile marks sources left fault = IsListFault profile marks sources left fault
