-- What a text for people reads as.
use Rattle.std.specs.Prelude.{ℕ, ◌≡◌, ◌++◌, List}
use Rattle.command_parts.specs.declared.message.Message.{Message}

-- The text of a message as it reads without a source: its bytes, whatever is marked among them.
abbrev pub plain : {A : Type 0} → Message A → List ℕ
plain m = m.bytes.items

-- The text begins with these bytes, as they are: whatever else it has comes after them.
pub record BeginsWith (front text : List ℕ) : Type 0 where
  pub rest : List ℕ
  pub is : text ≡ front ++ rest
