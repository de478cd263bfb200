-- Pieces of the text of a declaration.
use Rattle.std.specs.Prelude.{ℕ, ◌≡◌, ◌==◌, List, [], ◌∷◌, ◌++◌, if◌then◌else◌}
use Rattle.word12.specs.Words.{octal_text}

-- A range of addresses: the first in four octal digits, and where the last is another one, a hyphen and the last.
abbrev pub range_text : ℕ → ℕ → List ℕ
range_text first last = octal_text first ++ (if first == last then [] else 45 ∷ octal_text last)

-- The one text stands in front of what was added to it.
abbrev pub StaysInFront : List ℕ → List ℕ → Type 0
StaysInFront old new = (more : List ℕ) × (new ≡ old ++ more)
