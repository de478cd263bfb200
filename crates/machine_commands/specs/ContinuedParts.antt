-- One press of CONTINUE; it serves private contracts.
use Rattle.std.specs.Prelude.{ℕ, ◌≡◌, ◌⊎◌, ◌++◌, Bool, true, false, List, [], ◌∷◌}
use Rattle.std.proofs.Common.{suc}
use Rattle.peripherals.specs.declared.Event.{Event}
use Rattle.peripherals.specs.declared.Event.TheVariants.{Continue}
use Rattle.peripherals.specs.Devices.{WorldState}
use Rattle.peripherals.specs.Events.{Happens}
use Rattle.declaration.specs.Declaration.{Declaration}
use Rattle.machine_commands.specs.Continued.{IsAtPause}

-- CONTINUE was pressed at a pause, one press less is left, and the event is kept behind the others.
pub record HasPressed (d : Declaration) (n left : ℕ) (w v : WorldState) (events more : List Event) : Type 0 where
  pub at_pause : IsAtPause d w
  pub left_is : n ≡ suc left
  pub happens : Happens d.profile w Continue v
  pub kept : more ≡ events ++ Continue ∷ []

-- No press is left, or the machine is not at a pause; nothing changed.
pub record HasStayed (d : Declaration) (n left : ℕ) (w v : WorldState) (events more : List Event) : Type 0 where
  pub cannot : (n ≡ 0) ⊎ (IsAtPause d w → ⊥)
  pub left_is : left ≡ n
  pub same : v ≡ w
  pub kept : more ≡ events

-- Whether CONTINUE was pressed, and what is so then.
abbrev pub IsPressed : Declaration → Bool → ℕ → ℕ → WorldState → WorldState → List Event → List Event → Type 0
IsPressed d true n left w v events more = HasPressed d n left w v events more
IsPressed d false n left w v events more = HasStayed d n left w v events more
