-- A declaration in numbers with the symbols of a source.
use Rattle.std.specs.Prelude.{ℕ, ◌≡◌, ◌⊎◌, List, Option, Ok}
use Rattle.pal_text.specs.declared.names.Name.{Name}
use Rattle.labels.specs.Lines.{placed_text}
use Rattle.labels.specs.Within.{machine}
use Rattle.labels.specs.Programs.{MeansFor}

-- By these symbols the text is placed as these numbers, byte by byte, and it names the same machine.
pub record IsReadBack (own : List (Name × ℕ)) (numbers text : List ℕ) : Type 0 where
  pub placed : placed_text own text ≡ Ok numbers
  pub same_machine : machine text ≡ machine numbers

-- On the machine that the text names the parts mean something, and by their symbols the text is placed as these numbers, byte by
-- byte.
pub record IsNamedBy (parts : List (List ℕ)) (numbers text : List ℕ) : Type 0 where
  pub symbols : List (Name × ℕ)
  pub image : List (Option ℕ)
  pub source : MeansFor parts text symbols image
  pub placed : placed_text symbols text ≡ Ok numbers

-- The text is the declaration in numbers itself, or one that the symbols of the parts place as these numbers.
abbrev pub IsNamed : List (List ℕ) → List ℕ → List ℕ → Type 0
IsNamed parts numbers text = (text ≡ numbers) ⊎ IsNamedBy parts numbers text
