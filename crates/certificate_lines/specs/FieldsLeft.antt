-- What the reader of a line's fields has left; it serves private contracts.
use Rattle.std.specs.Prelude.{◌≡◌, ◌≢◌, ℕ, ◌==◌, List, [], ◌∷◌, ◌++◌, codes, Option, Some, None, IfSome, if◌then◌else◌}
use Rattle.certificate_lines.specs.declared.fields.Fields.{Fields}

-- The bytes that are still to be read, unless something did not read.
abbrev pub left : Fields → Option (List ℕ)
left f = if f.reads then Some f.rest.now else None

-- A field of this text was at the front, and what is left came after it; or the field did not read.
abbrev pub WasFirst : Fields → Fields → List ℕ → Type 0
WasFirst before after text = IfSome (left after) (λ rest. left before ≡ Some (text ++ rest))

-- The text of a run of numbers that have this text: its first one, and its last one after a dash where that is another.
abbrev pub run_text : (ℕ → List ℕ) → ℕ → ℕ → List ℕ
run_text text low high = text low ++ (if low == high then [] else codes "-" ++ text high)

-- No dash is next.
abbrev pub NoDash : List ℕ → Type 0
NoDash [] = Unit {0}
NoDash (c ∷ cs) = c ≢ 45

-- A field ends with its line, or before a space.
abbrev pub EndsField : List ℕ → Type 0
EndsField [] = Unit {0}
EndsField (c ∷ cs) = c ≡ 32
