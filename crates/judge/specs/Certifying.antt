-- What is certified by a certificate whose facts have sums, and why something is not.
use Rattle.std.specs.Prelude.{◌≡◌, ◌≢◌, ℕ, ◌⊎◌, ⊤, Option, List, take, Ok, Err}
use Rattle.bin_tape.specs.Tape.{IsTape}
use Rattle.bin_tape.specs.Refuses.{Refuses}
use Rattle.peripherals.specs.Loading.{image_of}
use Rattle.declaration.specs.DeclarationInCode as declared
use Rattle.declaration.specs.Text.{Declares, Fails, ListsRoutines}
use Rattle.declaration.specs.Declaration.{Declaration}
use Rattle.declaration.specs.declared.DeclarationFault.TheVariants as declaration
use Rattle.certificate_lines.specs.CertificateInCode as certified
use Rattle.certificate_lines.specs.Reading.{Text, reading}
use Rattle.certificate_lines.specs.Serving.{AsksForMemory}
use Rattle.processor.specs.Runs.{Image}
use Rattle.judge.specs.Landing.{Case}
use Rattle.judge.specs.Conditions.{IsFirst, IsValid}
use Rattle.judge.specs.declared.judging.Refusal.{Refusal}
use Rattle.judge.specs.declared.verdict.CertifyFault.{CertifyFault}
use Rattle.judge.specs.declared.verdict.CertifyFault.TheVariants as fault

-- The words of a tape, a declaration and a certificate, as they are kept.
pub record Parts : Type 0 where
  pub image : List (Option ℕ)
  pub declaration : declared.Kept
  pub certificate : certified.Kept

-- The tape's words as a map.
abbrev pub words_of : Parts → Image
words_of p = image_of p.image

-- The declaration that is meant.
abbrev pub declaration_of : Parts → Declaration
declaration_of p = declared.meaning p.declaration

-- What the conditions are checked for.
abbrev pub case_of : Parts → Case
case_of p = record { image = words_of p; declaration = declaration_of p; certificate = certified.claims p.certificate }

-- The bytes are a tape, of which at most 65,536 frames are read, with these words.
abbrev pub IsTapeOf : List ℕ → List (Option ℕ) → Type 0
IsTapeOf tape image = IsTape (take 65536 tape) image

-- The bytes are a tape, the text of a declaration with these routines in its order, and a text that is read as a
-- certificate, and say this.
pub record AreRead (tape declaration certificate : List ℕ) (p : Parts) : Type 0 where
  pub is_tape : IsTapeOf tape p.image
  pub declares : Declares declaration (declaration_of p)
  pub lists : ListsRoutines declaration (declared.routines_of p.declaration)
  pub is_certificate : reading certificate ≡ Ok (certified.meaning p.certificate)

-- The bytes are a tape, whichever words it has.
abbrev pub IsSomeTape : List ℕ → Type 0
IsSomeTape tape = (image : List (Option ℕ)) × IsTapeOf tape image

-- The text is that of a declaration, whichever it makes.
abbrev pub DeclaresSomething : List ℕ → Type 0
DeclaresSomething text = (d : Declaration) × Declares text d

-- The text is read as a certificate, whichever it is.
abbrev pub IsSomeCertificate : List ℕ → Type 0
IsSomeCertificate bytes = (text : Text) × (reading bytes ≡ Ok text)

-- The bytes are read as parts of which every condition holds.
abbrev pub AreValid : (tape declaration certificate : List ℕ) → Type 0
AreValid t d c = (p : Parts) × AreRead t d c p × IsValid (case_of p)

-- The bytes are read as parts of which this condition is the first that fails.
abbrev pub FailFirst : (tape declaration certificate : List ℕ) → Refusal → Type 0
FailFirst t d c r = (p : Parts) × AreRead t d c p × IsFirst (case_of p) r.condition r.address

-- The parts are looked at in the order tape, declaration, certificate, conditions; the first that is not good refuses, with
-- its fault. Memory may be wanting for the declaration's list of routines, for the certificate where it has a line that is
-- kept, and for the rooms of the judgement where all three are good.
abbrev pub IsRefused : (tape declaration certificate : List ℕ) → CertifyFault → Type 0
IsRefused t d c (fault.Tape f) = Refuses 65536 t f
IsRefused t d c (fault.Declaration f) = IsSomeTape t × Fails d f × (f ≢ declaration.NoMemory)
IsRefused t d c (fault.Certificate f) = IsSomeTape t × DeclaresSomething d × (reading c ≡ Err f)
IsRefused t d c (fault.Refused r) = FailFirst t d c r
IsRefused t d c fault.NoMemory = IsSomeTape t × (Fails d declaration.NoMemory ⊎ (DeclaresSomething d × (AsksForMemory c ⊎ IsSomeCertificate c)))

-- The fault is that a condition fails, and not one of the tape, of a text or of memory.
abbrev pub IsRefusal : CertifyFault → Type 0
IsRefusal (fault.Refused r) = ⊤
IsRefusal _ = ⊥
