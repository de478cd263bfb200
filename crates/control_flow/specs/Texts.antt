-- How offsets are written in the text of a declaration.
use Rattle.std.specs.Prelude.{ℕ, ◌==◌, List, [], ◌∷◌, ◌++◌, drop, if◌then◌else◌}
use Rattle.word12.specs.Words.{octal_text}

-- An offset in two octal digits.
abbrev pub offset_text : ℕ → List ℕ
offset_text offset = drop 2 (octal_text offset)

-- A range of offsets: the first, and where the last is another one, a hyphen and the last.
abbrev pub offsets_text : ℕ → ℕ → List ℕ
offsets_text first last = offset_text first ++ (if first == last then [] else 45 ∷ offset_text last)
