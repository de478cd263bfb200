-- What a text of events spells, and which fault it has.
use Rattle.std.specs.Prelude.{◌≡◌, ℕ, ◌+◌, ◌<◌, ◌≤◌, ◌⊎◌, if◌then◌else◌, codes, replicate, List, [], ◌∷◌, ◌++◌, length, Option, Some, None}
use Rattle.std.specs.Option.{option_map}
use Rattle.std.specs.Str.{bytes_eq}
use Rattle.peripherals.specs.declared.Event.{Event}
use Rattle.peripherals.specs.declared.Event.TheVariants.{Step, Key, PrinterDone, ReaderDone, PunchDone, Switches, Continue}
use Rattle.peripherals.specs.declared.event_text.EventsFault.{EventsFault}
use Rattle.peripherals.specs.declared.event_text.EventsFault.TheVariants.{BadLine, TooMany, NoMemory}
use Rattle.streams.specs.Taking.{StandsAt}
use Rattle.streams.specs.Text.{text_lines, words_of, octal_word, octal_byte, decimal_between}

-- A text of events has at most so many bytes.
abbrev pub most_bytes : ℕ
most_bytes = 65536

-- A text spells at most so many events, and one line at most so many steps; a line of N steps counts as N events.
abbrev pub most_events : ℕ
most_events = 1000000

-- The event of a line of one word.
abbrev pub event_named : List ℕ → Option Event
event_named name =
    if bytes_eq name (codes "step") then Some Step
    else (if bytes_eq name (codes "printer") then Some PrinterDone
    else (if bytes_eq name (codes "punch") then Some PunchDone
    else (if bytes_eq name (codes "continue") then Some Continue
    else None)))

-- The events of a line of two words: so many steps, a key, a frame for the reader, or the switches.
abbrev pub events_numbered : List ℕ → List ℕ → Option (List Event)
events_numbered name number =
    if bytes_eq name (codes "step") then option_map (λ n. replicate n Step) (decimal_between 1 most_events number)
    else (if bytes_eq name (codes "key") then option_map (λ b. Key b ∷ []) (octal_byte number)
    else (if bytes_eq name (codes "reader") then option_map (λ b. ReaderDone b ∷ []) (octal_byte number)
    else (if bytes_eq name (codes "switches") then option_map (λ w. Switches w ∷ []) (octal_word number)
    else None)))

-- The events of a line by its words: none if it is empty. Any other line is bad.
abbrev pub events_of_words : List (List ℕ) → Option (List Event)
events_of_words [] = Some []
events_of_words (name ∷ []) = option_map (λ e. e ∷ []) (event_named name)
events_of_words (name ∷ number ∷ []) = events_numbered name number
events_of_words (_ ∷ _ ∷ _ ∷ _) = None

-- The events that a line spells by its words: no event where it has no word, and no list of events where it is bad.
abbrev pub line_events : List ℕ → Option (List Event)
line_events line = events_of_words (words_of line)

-- These lines spell these events: each line its own, one after the other.
abbrev pub LinesSpell : List (List ℕ) → List Event → Type 0
LinesSpell [] events = events ≡ []
LinesSpell (line ∷ lines) events =
    (first : List Event) × (others : List Event) × (line_events line ≡ Some first) × LinesSpell lines others
    × (events ≡ first ++ others)

-- This text spells these events: it is not too long, each line is good, and there are not too many events.
pub record Spells (text : List ℕ) (events : List Event) : Type 0 where
  pub short : length text ≤ most_bytes
  pub spells : LinesSpell (text_lines text) events
  pub few : length events ≤ most_events

-- In a text that is not too long, this line with this number stands after these, which are good: they spell these events,
-- which are not too many.
pub record GoodBefore (text : List ℕ) (before : List (List ℕ)) (line : List ℕ) (number : ℕ) (events : List Event) : Type 0 where
  pub short : length text ≤ most_bytes
  pub stands : StandsAt (text_lines text) before line number
  pub spells : LinesSpell before events
  pub few : length events ≤ most_events

-- After these events the line with this number fails so: it is bad; it brings more events than are taken; or, where memory
-- is refused, it brings some.
abbrev pub LineFails : List Event → ℕ → List ℕ → EventsFault → Type 0
LineFails events number line (BadLine n) = (n ≡ number) × (line_events line ≡ None)
LineFails events number line TooMany =
    (more : List Event) × (line_events line ≡ Some more) × (most_events < length events + length more)
LineFails events number line NoMemory =
    (more : List Event) × (line_events line ≡ Some more) × (0 < length more) × (length events + length more ≤ most_events)

-- The first line that is not good fails so.
pub record FailsAtLine (text : List ℕ) (fault : EventsFault) : Type 0 where
  pub before : List (List ℕ)
  pub line : List ℕ
  pub number : ℕ
  pub events : List Event
  pub good : GoodBefore text before line number events
  pub fails : LineFails events number line fault

-- This text fails so: without looking at a line where it is too long, and else at its first line that is not good.
abbrev pub Fails : List ℕ → EventsFault → Type 0
Fails text (BadLine number) = FailsAtLine text (BadLine number)
Fails text TooMany = (most_bytes < length text) ⊎ FailsAtLine text TooMany
Fails text NoMemory = FailsAtLine text NoMemory
