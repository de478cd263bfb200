-- What a command wrote: a text that is right for what was read, or a prefix of one where a write
-- failed.
use Rattle.std.specs.Prelude.{ℕ, ◌≡◌, ◌⊎◌, List, Option}
use Rattle.std.specs.Io.KnownBytes.{Appends}
use Rattle.streams.specs.Bytes.{AppendsFront}

-- A text of which P is true was appended to what a sink tells.
pub record Writes (P : List ℕ → Type 0) (old new : Option (List ℕ)) : Type 0 where
  pub text : List ℕ
  pub is : P text
  pub written : Appends old new text

-- A prefix of such a text was appended: a part of it or nothing, but not all.
pub record FrontOf (P : List ℕ → Type 0) (old new : Option (List ℕ)) : Type 0 where
  pub text : List ℕ
  pub is : P text
  pub front : AppendsFront old new text

-- What a sink tells stayed as it was, or such a text was appended to it.
abbrev pub WritesNothingOr : (List ℕ → Type 0) → Option (List ℕ) → Option (List ℕ) → Type 0
WritesNothingOr P old new = (new ≡ old) ⊎ Writes P old new
