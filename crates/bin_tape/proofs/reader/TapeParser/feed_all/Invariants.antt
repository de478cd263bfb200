use Rattle.std.proofs.Common.{take}
use Rattle.bin_tape.specs.Reading.{Progress, run}
use Rattle.bin_tape.specs.Holds.{Shows, IsOpen}
use Rattle.bin_tape.proofs.reader.TapeParser.feed_all.Given as goal

abbrev pub invariant-loop-i : goal.invariant-loop-i
invariant-loop-i l = (p : Progress) → Shows p l.fn.self → IsOpen p →
    Shows (run l.at p (take l.i l.frames)) l.self × IsOpen (run l.at p (take l.i l.frames))
