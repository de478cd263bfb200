-- An image as a map.
use Rattle.std.specs.Prelude.{◌≡◌, ◌≢◌, ◌<◌, ℕ, List, Option, None, slice_get, unwrap_or, length}
use Rattle.std.specs.Option.{ForSome}

-- The word at an address, if there is one. In contracts an image is the list of its 4096 cells.
abbrev pub word_at : List (Option ℕ) → ℕ → Option ℕ
word_at image a = unwrap_or (slice_get image a) None

-- There are 4096 cells, and each word in them is below 4096.
pub record HoldsWords (image : List (Option ℕ)) : Type 0 where
  pub size : length image ≡ 4096
  pub words : (a : ℕ) → ForSome (word_at image a) (λ v. v < 4096)

-- No address has a word.
abbrev pub IsEmptyImage : List (Option ℕ) → Type 0
IsEmptyImage image = (a : ℕ) → a < 4096 → word_at image a ≡ None

-- Every address has a word.
abbrev pub IsFullImage : List (Option ℕ) → Type 0
IsFullImage image = (a : ℕ) → a < 4096 → word_at image a ≢ None
