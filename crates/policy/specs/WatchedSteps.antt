-- One event of a watched run.
use Rattle.std.specs.Prelude.{◌≡◌, ℕ, ◌⊎◌, Bool, true, false, not, IsTrue, Option, Some, None, List}
use Rattle.instruct.specs.Instructions.{Meaning, Jms}
use Rattle.processor.specs.Machine.{State, instruction, place}
use Rattle.processor.specs.Runs.{Image}
use Rattle.peripherals.specs.declared.Event.{Event}
use Rattle.peripherals.specs.declared.Event.TheVariants.{Step as Instruct, Continue}
use Rattle.peripherals.specs.Devices.{WorldState}
use Rattle.peripherals.specs.EventOutcomes.{puts_out}
use Rattle.policy.specs.declared.rules.Rule.{Rule}
use Rattle.declaration.specs.Declaration.{Declaration, IsDeclared}
use Rattle.policy.specs.Calls.{Calls}
use Rattle.policy.specs.Rules.{KeepsCode, IsLegal}
use Rattle.policy.specs.Runs.{HappensDeclared, calls_by, resumed}
use Rattle.policy.specs.Watching.{IsLeastBroken, TriesAt, IsCleanBefore}

-- The event happened and the call stack followed. An enabled step was legal, and fixed code stayed, if it was as the
-- tape has it.
pub record Goes (d : Declaration) (w : WorldState) (ks : Calls) (e : Event) (x : WorldState) (ls : Calls) : Type 0 where
  pub happens : HappensDeclared d w e x
  pub calls : ls ≡ calls_by d w e ks
  pub legal : (image : Image) → KeepsCode image d w.state.memory → e ≡ Instruct → w.halted_at ≡ None → IsLegal image d w.state ks
  pub code : IsDeclared d → (image : Image) → KeepsCode image d w.state.memory → KeepsCode image d x.state.memory

-- The event is an enabled step that violates this rule and none of lesser numbers, if fixed code is as the tape has
-- it.
pub record Stops (d : Declaration) (w : WorldState) (ks : Calls) (e : Event) (r : Rule) : Type 0 where
  pub step : e ≡ Instruct
  pub runs : w.halted_at ≡ None
  pub broken : (image : Image) → KeepsCode image d w.state.memory → IsLeastBroken image d w.state ks r

-- What watching an event tells: no rule is violated, or this one is.
abbrev pub Watches : Declaration → WorldState → Calls → Event → WorldState → Calls → Option Rule → Type 0
Watches d w ks e x ls None = Goes d w ks e x ls
Watches d w ks e x ls (Some r) = Stops d w ks e r

-- A JMS into an entry.
abbrev pub CallsRoutine : Declaration → Meaning → State → Type 0
CallsRoutine d (Jms i c) s = d.entry (place i c s.memory) ≡ true
CallsRoutine d _ s = ⊥

-- The next step takes memory: it prints or punches, or it adds to the call stack.
abbrev pub TakesMemory : Declaration → WorldState → Type 0
TakesMemory d w = IsTrue (puts_out w Instruct) ⊎ CallsRoutine d (instruction d.profile w.state) w.state

-- An enabled step is legal, if fixed code is as the tape has it, and takes memory.
pub record GrowsAt (d : Declaration) (w : WorldState) (ks : Calls) : Type 0 where
  pub runs : w.halted_at ≡ None
  pub takes : TakesMemory d w
  pub legal : (image : Image) → KeepsCode image d w.state.memory → IsLegal image d w.state ks

-- The event is such a step.
abbrev pub Grows : Declaration → WorldState → Calls → Event → Type 0
Grows d w ks Instruct = GrowsAt d w ks
Grows d w ks _ = ⊥

-- The event is no step, and no CONTINUE at a stop: it is as in any run.
abbrev pub Passes : Declaration → WorldState → Event → Type 0
Passes d w Instruct = ⊥
Passes d w Continue = resumed d w.halted_at ≡ None
Passes d w _ = Unit {0}

-- The machine is halted, and not at a pause.
abbrev pub waits : Declaration → Option ℕ → Bool
waits d None = false
waits d (Some at) = not (d.pause at)

-- A legal step of the declared run from w, before which each step is legal too, takes memory.
pub record LegalStepTakesMemory (image : Image) (d : Declaration) (events : List Event) (w : WorldState) : Type 0 where
  pub place : ℕ
  pub world : WorldState
  pub calls : Calls
  pub tries : TriesAt d events w place world calls
  pub takes : TakesMemory d world
  pub legal : IsLegal image d world.state calls
  pub first : IsCleanBefore image d events w place
