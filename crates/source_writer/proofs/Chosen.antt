-- The source that is given means the image.
use Rattle.std.proofs.Common.{◌≡◌, ap, refl, ℕ, Bool, true, List, [], ◌∷◌}
use Rattle.std.specs.Prelude.{Option, Some, None, nat_eq}
use Rattle.std.specs.Bool.{Decides}
use Rattle.std.specs.Cmp.Lexicographic.{pointwise}
use Rattle.std.specs.Option.{option_eq}
use Rattle.std.proofs.lemmas.Bool.Decides.{Decides-eqb, Decides-like}
use Rattle.std.proofs.lemmas.Slice.Eq.{slice_eq-Decides}
use Rattle.instruct.specs.declared.Profile.{Profile}
use Rattle.pal_text.specs.declared.names.Name.{Name}
use Rattle.pal_acts.specs.Permanent.{permanent_symbols}
use Rattle.pal_asm.specs.Sources.{Means}
use Rattle.source_writer.specs.Meaning.{IsSourceOf}

same_cell : (a b : Option ℕ) → Decides (option_eq nat_eq a b) (a ≡ b)
same_cell None None = (λ h. refl, λ e. refl)
same_cell None (Some w) = (λ h. cc, λ e. cc)
same_cell (Some v) None = (λ h. cc, λ e. cc)
same_cell (Some v) (Some w) = Decides-like (nat_eq v w) (λ h. ap Some h) (λ e. cc) (Decides-eqb v w)

-- a text that means the same image as was asked
pub read_so : (profile : Profile) (text : List ℕ) (symbols : List (Name × ℕ)) (read shown image : List (Option ℕ)) (r : Bool) → r ≡ pointwise (option_eq nat_eq) shown image → shown ≡ read
    → Means (permanent_symbols profile) (text ∷ []) symbols read → r ≡ true → IsSourceOf profile image text
read_so profile text symbols read shown image r told shown_is means is =
    let same : read ≡ image = rw shown_is at ((slice_eq-Decides same_cell shown image r told).0 is) in
    record { symbols = symbols; means = rw same at means }
