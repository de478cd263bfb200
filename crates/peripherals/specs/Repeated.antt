-- Events as they are gathered from lines. Private contracts alone cite this.
use Rattle.std.specs.Prelude.{ℕ, ◌≡◌, ◌+◌, ◌<◌, ◌≤◌, List, ◌++◌, length, replicate, Some}
use Rattle.peripherals.specs.declared.Event.{Event}
use Rattle.peripherals.specs.declared.event_text.RepeatedEvent.{RepeatedEvent}
use Rattle.peripherals.specs.declared.event_text.EventsFault.{EventsFault}
use Rattle.peripherals.specs.declared.event_text.EventsFault.TheVariants.{BadLine, TooMany, NoMemory}
use Rattle.peripherals.specs.EventText.{most_events, line_events}

-- the list of so many events
abbrev pub repeated : RepeatedEvent → List Event
repeated more = replicate more.times more.event

-- To so many events these are not added: they are too many, or, where memory is refused, some.
abbrev pub RefusesMore : ℕ → ℕ → EventsFault → Type 0
RefusesMore had more (BadLine number) = ⊥
RefusesMore had more TooMany = most_events < had + more
RefusesMore had more NoMemory = (0 < more) × (had + more ≤ most_events)

-- A line adds its events to those before it, and then there are not too many.
pub record Adds (events : List Event) (line : List ℕ) (after : List Event) : Type 0 where
  pub more : List Event
  pub brings : line_events line ≡ Some more
  pub added : after ≡ events ++ more
  pub few : length after ≤ most_events
