-- Which cells and places words name, and where a run is stopped for them.
use Rattle.std.specs.Prelude.{ℕ, ◌≡◌, ◌+◌, ◌==◌, ◌||◌, ◌⊎◌, Bool, true, false, not, is_some, List, Option, None, Some, Any, drop, map, option_map, take, vec_len}
use Rattle.std.specs.List.{AllZip, list_any, position}
use Rattle.streams.specs.Text.{decimal_between, words_of}
use Rattle.wordset.specs.Lanes.{words}
use Rattle.wordset.specs.Words.{has_some, nothing}
use Rattle.command_parts.specs.declared.options.Stops.{Stops}
use Rattle.command_line.specs.declared.fault.PlaceOption.{PlaceOption}
use Rattle.command_line.specs.declared.fault.PlaceOption.TheVariants as option
use Rattle.command_line.specs.declared.place_options.PlaceOptions.{PlaceOptions}
use Rattle.command_line.specs.declared.place_options.StopOptions.{StopOptions}
use Rattle.command_line.specs.OctalPlaces.{NamesOctalCells, NamesOctalPlace}

-- A set has the cells that some names name, each of which names a set of them.
pub record AreCellsOf (Names : List ℕ → List ℕ → Type 0) (names : List (List ℕ)) (set : List ℕ) : Type 0 where
  pub sets : List (List ℕ)
  pub each : AllZip Names names sets
  pub all : (v : ℕ) → words set v ≡ list_any (λ one. words one v) sets

-- A set has the cells that the words of a text name, of which there is one at least.
pub record AreCellsOfText (Names : List ℕ → List ℕ → Type 0) (text : List ℕ) (set : List ℕ) : Type 0 where
  pub are : AreCellsOf Names (words_of text) set
  pub some : has_some (words set) ≡ true

-- A set has the cells that texts name.
abbrev pub AreCellsOfTexts : (List ℕ → List ℕ → Type 0) → List (List ℕ) → List ℕ → Type 0
AreCellsOfTexts Names texts set = AreCellsOf (AreCellsOfText Names) texts set

-- Each word of a text names a set of cells, and all these sets are empty, as they are of a text without words.
pub record HasNoCells (Names : List ℕ → List ℕ → Type 0) (text : List ℕ) : Type 0 where
  pub set : List ℕ
  pub are : AreCellsOf Names (words_of text) set
  pub none : has_some (words set) ≡ false

-- A text is refused as a list of cells: one of its words is refused as a name of cells, or its words name no cell at all.
abbrev pub AreCellsRefused : (List ℕ → List ℕ → Type 0) → (List ℕ → Type 0) → List ℕ → Type 0
AreCellsRefused Names Refused text = Any Refused (words_of text) ⊎ HasNoCells Names text

-- A text names a place, with a number of steps behind a comma at this place, or without a comma and a number.
abbrev pub IsVisitAround : (List ℕ → ℕ → Type 0) → Option ℕ → List ℕ → ℕ → ℕ → Type 0
IsVisitAround Names None text place times = Names text place × (times ≡ 1)
IsVisitAround Names (Some comma) text place times = Names (take comma text) place × (decimal_between 1 1000000 (drop (comma + 1) text) ≡ Some times)

-- A text names a place, and how many steps come to it.
abbrev pub IsVisitNamed : (List ℕ → ℕ → Type 0) → List ℕ → ℕ → ℕ → Type 0
IsVisitNamed Names text place times = IsVisitAround Names (position (λ c. c == 44) text) text place times

-- A text that should name a place is refused, where its first comma stands here, if it has one: without a comma, the text is refused as a
-- name of a place; with one, what stands before it is, or what stands behind it is no number from 1 to 1,000,000.
abbrev pub IsVisitRefusedAround : (List ℕ → Type 0) → Option ℕ → List ℕ → Type 0
IsVisitRefusedAround Refused None text = Refused text
IsVisitRefusedAround Refused (Some comma) text = Refused (take comma text) ⊎ (decimal_between 1 1000000 (drop (comma + 1) text) ≡ None)

-- A text is refused that should name a place and, behind a comma, may have a number of steps.
abbrev pub IsVisitRefused : (List ℕ → Type 0) → List ℕ → Type 0
IsVisitRefused Refused text = IsVisitRefusedAround Refused (position (λ c. c == 44) text) text

-- The place at which a run is stopped, and how many steps come to it, are those that the text names; without a
-- text there is no place, and the number is 1.
abbrev pub IsUntilNamed : (List ℕ → ℕ → Type 0) → Option (List ℕ) → Option ℕ → ℕ → Type 0
IsUntilNamed Names None None times = times ≡ 1
IsUntilNamed Names (Some text) (Some place) times = IsVisitNamed Names text place times
IsUntilNamed Names _ _ times = ⊥

-- A run is stopped at the place and for the cells that the options name.
pub record AreStopsNamed (NamesPlace : List ℕ → ℕ → Type 0) (NamesCells : List ℕ → List ℕ → Type 0) (places : PlaceOptions) (stops : Stops) : Type 0 where
  pub until : IsUntilNamed NamesPlace (option_map (λ text. text.now) places.until) stops.place stops.times
  pub written : AreCellsOfTexts NamesCells (map (λ text. text.now) places.written.items) stops.written
  pub read : AreCellsOfTexts NamesCells (map (λ text. text.now) places.read.items) stops.read

-- A run may be stopped, or its last instructions are requested.
abbrev pub is_followed : PlaceOptions → Bool
is_followed places = is_some places.last || is_some places.until || not (vec_len places.written == 0) || not (vec_len places.read == 0)

-- A run that is followed is stopped as the options ask, and shows so many last instructions.
pub record IsFollowedBy (NamesPlace : List ℕ → ℕ → Type 0) (NamesCells : List ℕ → List ℕ → Type 0) (places : PlaceOptions) (stopping : StopOptions) : Type 0 where
  pub asked : is_followed places ≡ true
  pub stops : AreStopsNamed NamesPlace NamesCells places stopping.stops
  pub last : stopping.last ≡ places.last

-- A run is followed exactly if it may be stopped or its last instructions are requested.
abbrev pub IsFollowed : (List ℕ → ℕ → Type 0) → (List ℕ → List ℕ → Type 0) → PlaceOptions → Option StopOptions → Type 0
IsFollowed NamesPlace NamesCells places None = is_followed places ≡ false
IsFollowed NamesPlace NamesCells places (Some stopping) = IsFollowedBy NamesPlace NamesCells places stopping

-- One of the values of an option is refused as a list of cells.
abbrev pub AreTextsRefused : (List ℕ → List ℕ → Type 0) → (List ℕ → Type 0) → List (List ℕ) → Type 0
AreTextsRefused Names Refused texts = Any (AreCellsRefused Names Refused) texts

-- A value of this option is refused. Names says which cells a word names; NoCells and NoPlace say which words are refused as names of cells
-- and of a place.
abbrev pub IsValueRefused : (List ℕ → List ℕ → Type 0) → (List ℕ → Type 0) → (List ℕ → Type 0) → PlaceOption → PlaceOptions → Type 0
IsValueRefused Names NoCells NoPlace option.Show places = AreTextsRefused Names NoCells (map (λ text. text.now) places.show.items)
IsValueRefused Names NoCells NoPlace option.Until places = (text : List ℕ) × (option_map (λ text. text.now) places.until ≡ Some text) × IsVisitRefused NoPlace text
IsValueRefused Names NoCells NoPlace option.UntilWrite places = AreTextsRefused Names NoCells (map (λ text. text.now) places.written.items)
IsValueRefused Names NoCells NoPlace option.UntilRead places = AreTextsRefused Names NoCells (map (λ text. text.now) places.read.items)

-- The cells that are shown of the run of a tape are those that octal digits name. Those of a source are not known yet, and the set is empty.
abbrev pub AreShownOn : Bool → PlaceOptions → List ℕ → Type 0
AreShownOn true places set = AreCellsOfTexts NamesOctalCells (map (λ text. text.now) places.show.items) set
AreShownOn false places set = words set ≡ nothing

-- The run of a tape is followed as octal digits say. How that of a source is followed is not known yet.
abbrev pub IsStoppedOn : Bool → PlaceOptions → Option StopOptions → Type 0
IsStoppedOn true places stopping = IsFollowed NamesOctalPlace NamesOctalCells places stopping
IsStoppedOn false places stopping = stopping ≡ None
