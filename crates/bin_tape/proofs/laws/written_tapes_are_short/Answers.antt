use Rattle.bin_tape.proofs.Lengths.{written_at_most, written_fullest}
use Rattle.bin_tape.proofs.laws.written_tapes_are_short.Goals as goal

pub returns : goal.returns
returns c = record { at_most = written_at_most _; fullest = written_fullest _ }
