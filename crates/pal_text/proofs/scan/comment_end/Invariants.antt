use Rattle.std.proofs.Common.{◌≡◌, ◌≤◌, ◌-◌, length, true, false}
use Rattle.pal_text.specs.Characters.{in_comment, returned}
use Rattle.pal_text.specs.Scan.{front, IsQuiet}
use Rattle.pal_text.proofs.scan.comment_end.Given as goal

abbrev pub invariant-loop-at : goal.invariant-loop-at
invariant-loop-at l =
    IsQuiet l.source l.from l.at
    × (in_comment (front l.source l.at) ≡ true)
    × (returned (front l.source l.at) ≡ false)
    × (l.at ≤ length l.source)

abbrev pub decreases-loop-at : goal.decreases-loop-at
decreases-loop-at l = length l.source - l.at
