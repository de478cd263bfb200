use Rattle.bin_tape.proofs.ReadBack.{reads_back}
use Rattle.bin_tape.proofs.laws.written_tapes_read_back.Goals as goal

pub returns : goal.returns
returns c = rw (← c.image.view_is) (reads_back _ c.image.invariant)
