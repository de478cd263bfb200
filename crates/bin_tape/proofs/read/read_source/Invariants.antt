use Rattle.std.proofs.Common.{◌≡◌, ◌≤◌, ◌-◌, length, false}
use Rattle.bin_tape.specs.Served.{CameTo}
use Rattle.bin_tape.proofs.read.read_source.Given as goal

abbrev pub invariant-loop-at : goal.invariant-loop-at
invariant-loop-at g l =
    CameTo (g.R.ByteSource.remaining l.fn.source) (g.R.ByteSource.remaining l.source) l.at l.reader
    × (l.at ≤ 65536) × (length l.piece ≡ 512) × (g.R.ByteSource.mark l.source ≡ false)

abbrev pub decreases-loop-at : goal.decreases-loop-at
decreases-loop-at g l = 65536 - l.at
