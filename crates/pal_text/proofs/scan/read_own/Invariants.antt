use Rattle.std.proofs.Common.{◌≡◌, ◌≤◌, ◌-◌, length, false}
use Rattle.pal_text.specs.Characters.{in_comment, returned}
use Rattle.pal_text.specs.Scan.{front, IsOwn}
use Rattle.pal_text.proofs.scan.read_own.Given as goal

abbrev pub invariant-loop-at : goal.invariant-loop-at
invariant-loop-at g l =
    IsOwn l.source l.place l.at l.out.items
    × (l.returned ≡ returned (front l.source l.at))
    × (in_comment (front l.source l.at) ≡ false)
    × (l.at ≤ length l.source)

abbrev pub decreases-loop-at : goal.decreases-loop-at
decreases-loop-at g l = length l.source - l.at
