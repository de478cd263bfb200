-- One act after another: the private contracts of the calls below `assemble`.
use Rattle.std.specs.Prelude.{◌≡◌, ℕ, List, ◌∷◌, reverse, Option, Some, None, Result, Ok, Err}
use Rattle.pal_text.specs.declared.names.Name.{Name}
use Rattle.pal_acts.specs.declared.act.PlacedWord.{PlacedWord}
use Rattle.pal_acts.specs.declared.fault_code.FaultCode.{FaultCode}
use Rattle.pal_acts.specs.declared.symbols.Refusal.{Refusal}
use Rattle.pal_acts.specs.declared.symbols.Refusal.TheVariants as refusal
use Rattle.pal_acts.specs.declared.assembly.ActsFault.{ActsFault}
use Rattle.pal_acts.specs.declared.assembly.ActsFault.TheVariants.{Fault, NoMemory}
use Rattle.pal_acts.specs.Acts.{PlacedAct}
use Rattle.pal_acts.specs.Values.{Values}
use Rattle.pal_acts.specs.Meaning.{location}
use Rattle.pal_acts.specs.declared.words.AddressOperand.{AddressOperand}
use Rattle.pal_acts.specs.Words.{Marked, marked, word_of}
use Rattle.pal_acts.specs.Sources.{Encodes, words}
use Rattle.pal_acts.specs.Faults.{Stops, Finds}

-- A refusal by the fault in place of symbols, or memory was refused.
abbrev pub IsFault : Result (List (Name × ℕ)) FaultCode → Refusal → Type 0
IsFault taken (refusal.Fault code) = taken ≡ Err code
IsFault taken refusal.NoMemory = Unit {0}

-- The acts are refused before their words are looked at.
abbrev pub StopsBy : List (Name × ℕ) → ℕ → List PlacedAct → ActsFault → Type 0
StopsBy permanent limit acts (Fault place code) = Stops permanent limit acts place code
StopsBy permanent limit acts NoMemory = Unit {0}

-- The acts are refused for a word, or memory was refused.
abbrev pub FindsBy : Values → List PlacedAct → ActsFault → Type 0
FindsBy σ acts (Fault place code) = Finds σ acts place code
FindsBy σ acts NoMemory = Unit {0}

-- This is the word of an act at this location, or it has none.
abbrev pub Codes : Values → ℕ → PlacedAct → Option PlacedWord → Type 0
Codes σ here next None = word_of σ here next.terms next.act ≡ None
Codes σ here next (Some w) = (w.place ≡ next.place) × (w.at ≡ here) × (word_of σ here next.terms next.act ≡ Some (Ok w.word))

-- The word of an act is kept after those before it, which are in order.
abbrev pub Keeps : Values → PlacedAct → List PlacedWord → ℕ → List PlacedWord → ℕ → Type 0
Keeps σ next kept here kept' here' = (before : List PlacedAct) → here ≡ location σ before → kept ≡ reverse (words σ before) → Encodes σ before
    → (kept' ≡ reverse (words σ (next ∷ before))) × Encodes σ (next ∷ before) × (here' ≡ location σ (next ∷ before))

-- An act at this location is not kept: it is to be a word and is none, or memory was refused.
abbrev pub BreaksBy : Values → ℕ → PlacedAct → ActsFault → Type 0
BreaksBy σ here next (Fault place code) = (place ≡ next.place) × (word_of σ here next.terms next.act ≡ Some (Err code))
BreaksBy σ here next NoMemory = Unit {0}

-- What follows an operation that takes an address, as it is lent.
abbrev pub marks_in : AddressOperand → Marked
marks_in m = marked m.indirect m.zero m.address.now
