-- What the definitions of events and of their texts leave open: nothing. Want of memory is not a fault of a text.
use Rattle.std.specs.Prelude.{◌≡◌, ◌≢◌, ℕ, ◌⊎◌, false, List}
use Rattle.peripherals.specs.declared.Event.{Event}
use Rattle.peripherals.specs.declared.event_text.EventsFault.{EventsFault}
use Rattle.peripherals.specs.declared.event_text.EventsFault.TheVariants.{NoMemory}
use Rattle.instruct.specs.declared.Profile.{Profile}
use Rattle.peripherals.specs.Devices.{WorldState}
use Rattle.peripherals.specs.declared.Event.TheVariants.{Step}
use Rattle.peripherals.specs.declared.Seen.TheVariants.{Unsupported}
use Rattle.peripherals.specs.Events.{Happens}
use Rattle.peripherals.specs.EventOutcomes.{is_enabled, seen_of}
use Rattle.peripherals.specs.EventText.{Spells, Fails}

-- An event leads to no other world.
abbrev pub EventsLeadToOneWorld : Type 0
EventsLeadToOneWorld =
    (profile : Profile) (w : WorldState) (event : Event) (x y : WorldState) → Happens profile w event x → Happens profile w event y → x ≡ y

-- An event that is not enabled changes nothing.
abbrev pub IdleEventsChangeNothing : Type 0
IdleEventsChangeNothing =
    (profile : Profile) (w x : WorldState) (event : Event) → is_enabled w event ≡ false → Happens profile w event x → x ≡ w

-- A step at a word that is not supported changes nothing.
abbrev pub UnsupportedStepsChangeNothing : Type 0
UnsupportedStepsChangeNothing =
    (profile : Profile) (w x : WorldState) (word : ℕ) → seen_of profile w Step ≡ Unsupported word → Happens profile w Step x → x ≡ w

-- A text spells no other events.
abbrev pub EventsAreOne : Type 0
EventsAreOne = (text : List ℕ) (events events' : List Event) → Spells text events → Spells text events' → events ≡ events'

-- A text has no other fault.
abbrev pub EventsFaultIsOne : Type 0
EventsFaultIsOne =
    (text : List ℕ) (fault fault' : EventsFault) → fault ≢ NoMemory → fault' ≢ NoMemory → Fails text fault → Fails text fault' → fault ≡ fault'

-- A text that spells events has no fault.
abbrev pub EventsAreNoFault : Type 0
EventsAreNoFault = (text : List ℕ) (events : List Event) (fault : EventsFault) → fault ≢ NoMemory → Spells text events → Fails text fault → ⊥

-- Each text spells events or has a fault.
abbrev pub EachEventTextIsAnswered : Type 0
EachEventTextIsAnswered =
    (text : List ℕ) → ((events : List Event) × Spells text events) ⊎ ((fault : EventsFault) × (fault ≢ NoMemory) × Fails text fault)
