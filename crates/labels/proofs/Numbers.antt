-- What a source and its declaration are in numbers.
use Rattle.std.proofs.Common.{ℕ, ◌≡◌, sym, refl, subst, List, Option, Result, Ok, Err}
use Rattle.std.specs.Prelude.{◌↔◌}
use Rattle.bin_tape.specs.Image.{IsEmptyImage}
use Rattle.bin_tape.specs.declared.fault.WriteTapeFault.{WriteTapeFault}
use Rattle.bin_tape.specs.declared.fault.WriteTapeFault.TheVariants.{EmptyImage}
use Rattle.pal_text.specs.declared.names.Name.{Name}
use Rattle.pal_acts.specs.Permanent.{permanent_symbols}
use Rattle.pal_asm.specs.Sources.{Means}
use Rattle.labels.specs.declared.fault.PlaceFault.{PlaceFault}
use Rattle.labels.specs.declared.fault.PlaceFault.TheVariants.{BadLine, NoSymbol, PastMemory, Backwards, TooMany}
use Rattle.labels.specs.declared.fault.PlaceFault.TheVariants as place
use Rattle.labels.specs.declared.program.NumberingFault.{NumberingFault}
use Rattle.labels.specs.declared.program.NumberingFault.TheVariants as fault
use Rattle.labels.specs.Lines.{placed_text, IsPlaceFault}
use Rattle.labels.specs.Within.{machine}
use Rattle.labels.specs.Programs.{MeansFor, IsEmptyFault, IsNumberingFault, IsSourceFault, placing_fault}

-- an image of which a tape was written has a word
pub has_word : (r : Result Unit WriteTapeFault) (image : List (Option ℕ)) → ((r ≡ Err EmptyImage) ↔ IsEmptyImage image) → r ≡ Ok tt → IsEmptyImage image → ⊥
has_word r image told done empty =
    let is : r ≡ Err EmptyImage = told.1 empty in
    cc

-- a meaning, by the symbols and the image that are shown
pub means_shown : (parts : List (List ℕ)) (declaration : List ℕ) (symbols entries : List (Name × ℕ)) (image shown : List (Option ℕ)) → Means (permanent_symbols (machine declaration)) parts symbols image → entries ≡ symbols → shown ≡ image → MeansFor parts declaration entries shown
means_shown parts declaration symbols entries image shown m s i =
    let P : List (Option ℕ) → Type 0 = λ x. Means (permanent_symbols (machine declaration)) parts symbols x in
    let Q : List (Name × ℕ) → Type 0 = λ x. Means (permanent_symbols (machine declaration)) parts x shown in
    record { means = subst Q (sym s) (subst P (sym i) m) }

-- a fault of the declaration is one of both
pub refused_placing : (parts : List (List ℕ)) (declaration : List ℕ) (symbols : List (Name × ℕ)) (image : List (Option ℕ)) (fault : PlaceFault) → MeansFor parts declaration symbols image → (IsEmptyImage image → ⊥) → IsPlaceFault (placed_text symbols declaration) fault
    → IsNumberingFault parts declaration (placing_fault fault)
refused_placing parts declaration symbols image (BadLine n) m w e = record { symbols = symbols; image = image; source = m; has_word = w; is = e }
refused_placing parts declaration symbols image (NoSymbol n) m w e = record { symbols = symbols; image = image; source = m; has_word = w; is = e }
refused_placing parts declaration symbols image (PastMemory n) m w e = record { symbols = symbols; image = image; source = m; has_word = w; is = e }
refused_placing parts declaration symbols image (Backwards n) m w e = record { symbols = symbols; image = image; source = m; has_word = w; is = e }
refused_placing parts declaration symbols image TooMany m w e = record { symbols = symbols; image = image; source = m; has_word = w; is = e }
refused_placing parts declaration symbols image place.NoMemory m w e = tt

-- memory that was refused is told as that
pub not_refused : (f : PlaceFault) → (f ≡ place.NoMemory → ⊥) → fault.Placing f ≡ placing_fault f
not_refused (BadLine n) no_memory = refl
not_refused (NoSymbol n) no_memory = refl
not_refused (PastMemory n) no_memory = refl
not_refused (Backwards n) no_memory = refl
not_refused TooMany no_memory = refl
not_refused place.NoMemory no_memory = absurd (no_memory refl)

-- a fault of the parts is one of both
pub source_fault : (parts : List (List ℕ)) (declaration : List ℕ) (f : NumberingFault) → IsSourceFault (machine declaration) parts f → IsNumberingFault parts declaration f
source_fault parts declaration (fault.Source f) is = is
source_fault parts declaration fault.EmptyImage is = absurd is
source_fault parts declaration (fault.Placing f) is = absurd is
source_fault parts declaration fault.NoMemory is = tt

-- that there is no word is one of both
pub empty_fault : (parts : List (List ℕ)) (declaration : List ℕ) (symbols : List (Name × ℕ)) (image : List (Option ℕ)) (f : NumberingFault) → MeansFor parts declaration symbols image → IsEmptyFault image f → IsNumberingFault parts declaration f
empty_fault parts declaration symbols image (fault.Source f) m is = absurd is
empty_fault parts declaration symbols image fault.EmptyImage m is = record { symbols = symbols; image = image; source = m; empty = is }
empty_fault parts declaration symbols image (fault.Placing f) m is = absurd is
empty_fault parts declaration symbols image fault.NoMemory m is = tt
