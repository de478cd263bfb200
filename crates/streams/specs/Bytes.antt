-- What a call leaves of a source or a sink of bytes.
use Rattle.std.specs.Prelude.{ℕ, ◌<◌, ◌==◌, ◌&&◌, Bool, true, false, not, Option, Some, None, Result, Ok, Err, List, take, length, ⊤}
use Rattle.std.specs.Io.KnownBytes.{Appends, Consumes}

-- A read gave nothing for a piece that is not empty: the end of input.
abbrev pub finds_end : {E : Type 0} → Result ℕ E → List ℕ → Bool
finds_end (Ok n) piece = n == 0 && not (length piece == 0)
finds_end (Err e) piece = false

-- A write of a piece failed, or took nothing of a piece that is not empty.
abbrev pub write_fails : {E : Type 0} → Result ℕ E → List ℕ → Bool
write_fails (Ok n) piece = n == 0 && not (length piece == 0)
write_fails (Err e) piece = true

-- A prefix of the piece was appended to the bytes that a sink tells: a part of it or nothing, but not
-- all.
pub record AppendsFront (old new : Option (List ℕ)) (piece : List ℕ) : Type 0 where
  pub count : ℕ
  pub within : count < length piece
  pub out : Appends old new (take count piece)

-- Of what a source gave between two states this is true. Nothing is said of a source that does not tell its bytes.
abbrev pub Gave : Option (List ℕ) → Option (List ℕ) → (List ℕ → Type 0) → Type 0
Gave None new P = ⊤
Gave (Some bytes) new P = (given : List ℕ) × Consumes (Some bytes) new given × P given
