use Rattle.std.proofs.Common.{◌≡◌, ◌++◌}
use Rattle.bin_tape.specs.Written.{begins_run, words_below, word_frames}
use Rattle.bin_tape.proofs.write.Frames.push_image.Given as goal

abbrev pub invariant-loop-at : goal.invariant-loop-at
invariant-loop-at l =
    (l.self ≡ l.fn.self ++ word_frames (words_below l.image l.at)) × (l.begins ≡ begins_run l.image l.at)
