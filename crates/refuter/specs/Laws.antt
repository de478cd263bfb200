-- What a run that violates a declaration says of the program.
use Rattle.std.specs.Prelude.{ℕ, ◌≡◌, ◌<◌, List, Some}
use Rattle.declaration.specs.Declaration.{Declaration}
use Rattle.peripherals.specs.declared.Event.{Event}
use Rattle.policy.specs.Runs.{IsSafe}
use Rattle.policy.specs.Watching.{BreaksAt}
use Rattle.policy.specs.declared.rules.Rule.{Rule}
use Rattle.processor.specs.Runs.{Image}
use Rattle.refuter.specs.Witnesses.{begun_from_zero}

-- Each word that an image puts into memory has twelve bits.
abbrev pub PutsWords : Image → Type 0
PutsWords image = (a w : ℕ) → image a ≡ Some w → w < 4096

-- Where a run from the declared start, with all else 0, violates a rule by some event, the program is not safe: what one
-- run does no certificate can rule out.
abbrev pub BrokenIsUnsafe : Type 0
BrokenIsUnsafe =
    (image : Image) (d : Declaration) (events : List Event) (event : ℕ) (rule : Rule) → PutsWords image →
    BreaksAt image d events (begun_from_zero image d) event rule → IsSafe image d → ⊥
