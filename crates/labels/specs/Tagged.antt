-- An address that is named by a tag of a source.
use Rattle.std.specs.Prelude.{ℕ, ◌≡◌, ◌⊎◌, List, ◌++◌, Ok}
use Rattle.word12.specs.Words.{octal_text}
use Rattle.pal_text.specs.declared.names.Name.{Name}
use Rattle.labels.specs.declared.address.Cells.TheVariants.{One}
use Rattle.labels.specs.Addresses.{cells_of}

-- The piece is the address in digits, or a declaration of a source with these symbols reads it as that address.
abbrev pub IsNameOf : List (Name × ℕ) → ℕ → List ℕ → Type 0
IsNameOf own at piece = (piece ≡ octal_text at) ⊎ (cells_of own piece ≡ Ok (One at))

-- A name of the address was put after a text.
pub record AddsName (own : List (Name × ℕ)) (at : ℕ) (old new : List ℕ) : Type 0 where
  pub piece : List ℕ
  pub names : IsNameOf own at piece
  pub added : new ≡ old ++ piece
