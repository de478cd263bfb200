-- What a source means: its own symbols and its image. Lists of acts and of words have the newest first, but where a source is
-- named they stand in order.
use Rattle.std.specs.Prelude.{◌≡◌, ◌≢◌, ℕ, ◌<◌, if◌then◌else◌, List, [], ◌∷◌, length, Option, Some, None, Result, Ok, Err, nat_eq, reverse}
use Rattle.bin_tape.specs.Image.{word_at}
use Rattle.pal_text.specs.declared.names.Name.{Name}
use Rattle.pal_acts.specs.declared.act.SourcePlace.{SourcePlace}
use Rattle.pal_acts.specs.declared.act.PlacedWord.{PlacedWord}
use Rattle.pal_acts.specs.declared.fault_code.FaultCode.{FaultCode}
use Rattle.pal_acts.specs.Acts.{PlacedAct}
use Rattle.pal_acts.specs.Values.{Values, known}
use Rattle.pal_acts.specs.Meaning.{location, Defines}
use Rattle.pal_acts.specs.Words.{word_of}

-- No act is to be a word and is none.
abbrev pub Encodes : Values → List PlacedAct → Type 0
Encodes σ [] = Unit {0}
Encodes σ (a ∷ before) = ((code : FaultCode) → word_of σ (location σ before) a.terms a.act ≢ Some (Err code)) × Encodes σ before

-- A word with its place and its address, before others; where there is none, these alone.
abbrev pub with_word : SourcePlace → ℕ → Option (Result ℕ FaultCode) → List PlacedWord → List PlacedWord
with_word p at (Some (Ok w)) before = record { place = p; at = at; word = w } ∷ before
with_word p at _ before = before

-- The words of acts, each with its place in the source and its address. Both lists have the newest first.
abbrev pub words : Values → List PlacedAct → List PlacedWord
words σ [] = []
words σ (a ∷ before) = with_word a.place (location σ before) (word_of σ (location σ before) a.terms a.act) (words σ before)

-- The words of acts that are in order, in order.
abbrev pub all_words : Values → List PlacedAct → List PlacedWord
all_words σ acts = reverse (words σ (reverse acts))

-- The last of these words that goes to this address.
abbrev pub last_at : ℕ → List PlacedWord → Option ℕ
last_at a [] = None
last_at a (w ∷ before) = if nat_eq w.at a then Some w.word else last_at a before

-- The image of these words: a cell for each of the 4096 addresses, with the last word that goes there.
pub record IsImage (ws : List PlacedWord) (image : List (Option ℕ)) : Type 0 where
  pub size : length image ≡ 4096
  pub cells : (a : ℕ) → a < 4096 → word_at image a ≡ last_at a ws

-- A source of these acts has no fault, these own symbols, of at most so many, and this image.
pub record IsSource (permanent : List (Name × ℕ)) (limit : ℕ) (acts : List PlacedAct) (own : List (Name × ℕ)) (image : List (Option ℕ)) : Type 0 where
  pub defines : Defines permanent limit (reverse acts) own
  pub encodes : Encodes (known permanent own) (reverse acts)
  pub image_is : IsImage (words (known permanent own) (reverse acts)) image
