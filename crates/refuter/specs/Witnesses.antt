-- What a witness shows.
use Rattle.std.specs.Prelude.{◌≡◌, ◌+◌, None, length}
use Rattle.declaration.specs.Declaration.{Declaration}
use Rattle.peripherals.specs.Devices.{WorldState, idle}
use Rattle.peripherals.specs.EventText.{Spells}
use Rattle.peripherals.specs.Loading.{laid}
use Rattle.policy.specs.Watching.{BreaksAt}
use Rattle.processor.specs.Runs.{Image}
use Rattle.refuter.specs.declared.Witness.{Witness}

-- The world in which a declared run begins where all registers, and all cells that are not on the tape, are 0.
abbrev pub begun_from_zero : Image → Declaration → WorldState
begun_from_zero image d = record {
  state = record { ac = 0; link = 0; mq = 0; pc = d.start; memory = laid image (λ _. 0) };
  devices = idle;
  halted_at = None;
}

-- Of a run that begins so, the first step that is not legal is the event that a witness tells, and the lowest-numbered
-- rule that it violates is the rule that it tells.
abbrev pub Breaks : {A : Type 0} → Image → Declaration → Witness A → Type 0
Breaks image d w = BreaksAt image d w.events.items (begun_from_zero image d) w.event w.rule

-- The text of a witness is read as its events.
abbrev pub IsSpelled : {A : Type 0} → Witness A → Type 0
IsSpelled w = Spells w.text.items w.events.items

-- No event stands behind the one that violates the rule.
abbrev pub IsLast : {A : Type 0} → Witness A → Type 0
IsLast w = w.event + 1 ≡ length w.events.items
