use Rattle.std.proofs.Common.{◌≡◌, ◌≤◌, ◌-◌, length, false, vec_len}
use Rattle.std.specs.Io.KnownBytes.{Consumes}
use Rattle.streams.proofs.input.read_at_most.Given as goal

abbrev pub invariant-loop-piece : goal.invariant-loop-piece
invariant-loop-piece g l =
    Consumes (g.R.ByteSource.remaining l.fn.source) (g.R.ByteSource.remaining l.source) l.text.items ×
    (length l.text.items ≡ vec_len l.text) × (vec_len l.text ≤ l.limit) × (length l.piece ≡ 512) × (g.R.ByteSource.mark l.source ≡ false)

abbrev pub decreases-loop-piece : goal.decreases-loop-piece
decreases-loop-piece g l = l.limit - vec_len l.text
