-- The first fault of a source, at the place of its act.
use Rattle.std.specs.Prelude.{◌≡◌, ℕ, List, ◌∷◌, ◌++◌, reverse, Some, Err, ◌⊎◌}
use Rattle.pal_text.specs.declared.names.Name.{Name}
use Rattle.pal_acts.specs.declared.act.SourcePlace.{SourcePlace}
use Rattle.pal_acts.specs.declared.fault_code.FaultCode.{FaultCode}
use Rattle.pal_acts.specs.declared.assembly.ActsFault.{ActsFault}
use Rattle.pal_acts.specs.declared.assembly.ActsFault.TheVariants.{Fault, NoMemory}
use Rattle.pal_acts.specs.Acts.{PlacedAct}
use Rattle.pal_acts.specs.Values.{Values, known}
use Rattle.pal_acts.specs.Meaning.{location, next_taken, Defines}
use Rattle.pal_acts.specs.Words.{word_of}
use Rattle.pal_acts.specs.Sources.{Encodes}

-- One of these acts is such after those before it, which have the newest first.
pub record Meets (acts : List PlacedAct) (Such : List PlacedAct → PlacedAct → Type 0) : Type 0 where
  pub earlier : List PlacedAct
  pub next : PlacedAct
  pub later : List PlacedAct
  pub parts : acts ≡ reverse earlier ++ next ∷ later
  pub such : Such earlier next

-- The first fault that is not a word's: it is that of an act at this place, and the acts before it have these symbols.
abbrev pub Stops : List (Name × ℕ) → ℕ → List PlacedAct → SourcePlace → FaultCode → Type 0
Stops permanent limit acts place code = Meets acts (λ before next. (place ≡ next.place)
    × ((own : List (Name × ℕ)) × Defines permanent limit before own × (next_taken permanent limit own before next ≡ Err code)))

-- The first fault of a word: it is that of an act at this place, and the words before it have none.
abbrev pub Finds : Values → List PlacedAct → SourcePlace → FaultCode → Type 0
Finds σ acts place code = Meets acts (λ before next. (place ≡ next.place) × Encodes σ before × (word_of σ (location σ before) next.terms next.act ≡ Some (Err code)))

-- The fault of a source is the first one that is not a word's. If there is none, it is the first of a word, with the
-- symbols of the whole source.
abbrev pub IsRefused : List (Name × ℕ) → ℕ → List PlacedAct → SourcePlace → FaultCode → Type 0
IsRefused permanent limit acts place code = Stops permanent limit acts place code
    ⊎ ((own : List (Name × ℕ)) × Defines permanent limit (reverse acts) own × Finds (known permanent own) acts place code)

-- A source is refused so: by its fault, or memory was refused.
abbrev pub Refuses : List (Name × ℕ) → ℕ → List PlacedAct → ActsFault → Type 0
Refuses permanent limit acts (Fault place code) = IsRefused permanent limit acts place code
Refuses permanent limit acts NoMemory = Unit {0}
