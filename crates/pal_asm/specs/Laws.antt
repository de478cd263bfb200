-- What the definitions of meanings, faults and listings leave open: nothing. Want of memory is not a fault of a source.
use Rattle.std.specs.Prelude.{◌≡◌, ℕ, List, [], ◌∷◌, Option, ◌⊎◌}
use Rattle.std.specs.List.{AllByRecursion}
use Rattle.instruct.specs.declared.Profile.{Profile}
use Rattle.bin_tape.specs.Image.{HoldsWords}
use Rattle.pal_text.specs.declared.names.Name.{Name}
use Rattle.pal_acts.specs.Permanent.{permanent_symbols}
use Rattle.pal_asm.specs.declared.fault.PalFault.{PalFault}
use Rattle.pal_asm.specs.Sources.{TextLine, Means, IsFault}
use Rattle.pal_acts.specs.declared.act.SourcePlace.{SourcePlace}
use Rattle.pal_acts.specs.Values.{known}
use Rattle.pal_acts.specs.Sources.{all_words}
use Rattle.pal_asm.specs.Listings.{Lists}

-- A source means no other symbols and no other image.
abbrev pub MeaningIsOne : Type 0
MeaningIsOne = (permanent : List (Name × ℕ)) (parts : List (List ℕ)) (own own' : List (Name × ℕ)) (image image' : List (Option ℕ))
    → Means permanent parts own image → Means permanent parts own' image' → (own ≡ own') × (image ≡ image')

-- A source has no other fault.
abbrev pub FaultIsOne : Type 0
FaultIsOne = (permanent : List (Name × ℕ)) (parts : List (List ℕ)) (fault fault' : PalFault)
    → IsFault permanent parts fault → IsFault permanent parts fault' → fault ≡ fault'

-- A source that means something has no fault.
abbrev pub MeaningIsNoFault : Type 0
MeaningIsNoFault = (permanent : List (Name × ℕ)) (parts : List (List ℕ)) (own : List (Name × ℕ)) (image : List (Option ℕ)) (fault : PalFault)
    → Means permanent parts own image → IsFault permanent parts fault → ⊥

-- Each source, of whatever parts, means something or has a fault.
abbrev pub EachSourceIsAnswered : Type 0
EachSourceIsAnswered =
    (permanent : List (Name × ℕ)) (parts : List (List ℕ)) → ((own : List (Name × ℕ)) × (image : List (Option ℕ)) × Means permanent parts own image)
    ⊎ ((fault : PalFault) × IsFault permanent parts fault)

-- What a source means can stand on a tape: each word of its image is below 4096.
abbrev pub MeantAreWords : Type 0
MeantAreWords = (profile : Profile) (parts : List (List ℕ)) (own : List (Name × ℕ)) (image : List (Option ℕ))
    → Means (permanent_symbols profile) parts own image → HoldsWords image

-- A source with these symbols, which its meaning gives, has no other listing.
abbrev pub ListingIsOne : Type 0
ListingIsOne = (permanent : List (Name × ℕ)) (parts : List (List ℕ)) (own : List (Name × ℕ)) (text text' : List ℕ)
    → Lists permanent parts own text → Lists permanent parts own text' → text ≡ text'

-- A line stands at this place.
abbrev pub IsListed : SourcePlace → List TextLine → Type 0
IsListed p [] = ⊥
IsListed p (l ∷ ls) = (l.place ≡ p) ⊎ IsListed p ls

-- Each word of a listing stands on one of its lines.
abbrev pub WordsAreListed : Type 0
WordsAreListed = (permanent : List (Name × ℕ)) (parts : List (List ℕ)) (own : List (Name × ℕ)) (text : List ℕ) (listing : Lists permanent parts own text)
    → AllByRecursion (λ word. IsListed word.place listing.lines) (all_words (known permanent own) listing.acts)
