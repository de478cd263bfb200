-- What is seen of a watched run, from its parts.
use Rattle.std.proofs.Common.{ℕ, ◌≡◌, Bool, List, refl}
use Rattle.std.specs.Prelude.{Option}
use Rattle.peripherals.specs.declared.Event.{Event}
use Rattle.peripherals.specs.Devices.{WorldState}
use Rattle.peripherals.specs.Loading.{image_of}
use Rattle.declaration.specs.Declaration.{Declaration}
use Rattle.policy.specs.declared.rules.Rule.{Rule}
use Rattle.policy.specs.declared.watcher.Watched.{Watched}
use Rattle.policy.specs.declared.watcher.Watched.TheVariants.{Clean, Broken}
use Rattle.policy.specs.Watching.{IsClean, BreaksAt, LeadsTo}
use Rattle.machine_commands.specs.Running.{fresh}
use Rattle.machine_commands.specs.Summary.{cells_text}
use Rattle.machine_commands.specs.WatchText.{CellsAfter, IsSeen}

-- what the watcher tells of the run from this world is what is seen, where the world is the one that is loaded over zeros
pub is_seen : (image : List (Option ℕ)) (d : Declaration) (events : List Event) (told : Watched) (w : WorldState) → w ≡ fresh image d.start →
    (told ≡ Clean → IsClean (image_of image) d events w) → ((n : ℕ) (r : Rule) → told ≡ Broken n r → BreaksAt (image_of image) d events w n r) →
    IsSeen image d events told
is_seen image d events Clean w begins clean broken = rw begins at (clean refl)
is_seen image d events (Broken n r) w begins clean broken = rw begins at (broken n r refl)

-- what is shown after the events of a declared run
pub cells_after : (named : ℕ → Bool) (image : List (Option ℕ)) (d : Declaration) (events : List Event) (w x : WorldState) (shown : List ℕ) →
    w ≡ fresh image d.start → LeadsTo d events w x → shown ≡ cells_text named x → CellsAfter named image d events shown
cells_after named image d events w x shown begins leads is = record {
  final = x;
  leads = rw begins at leads;
  shown_is = is;
}
