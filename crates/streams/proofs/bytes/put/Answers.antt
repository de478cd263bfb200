use Rattle.streams.proofs.BytesLemmas.{more_out, more_within, not_marked}
use Rattle.streams.proofs.bytes.put.Goals as goal

pub loop-done-preserved : goal.loop-done-preserved
loop-done-preserved g c = (
  more_within c.args.piece.now c.loop-done.done c.in_ok-count.count c.loop-done.invariant.0 c.in_ok-count.ensures.count,
  not_marked _ _ c.in_ok-count.count _ c.loop-done.invariant.1 c.if-count-eq0.false c.in_ok-count.ensures.marks,
  more_out _ _ _ c.args.piece.now c.loop-done.done c.in_ok-count.count c.loop-done.invariant.2 c.in_ok-count.ensures.bytes,
)
