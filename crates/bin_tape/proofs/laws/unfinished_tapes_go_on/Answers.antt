use Rattle.bin_tape.proofs.GoesOn.{no_word_goes_on, truncated_goes_on, too_long_goes_on}
use Rattle.bin_tape.proofs.laws.unfinished_tapes_go_on.Goals as goal

pub returns : goal.returns
returns c = record { no_word = no_word_goes_on; truncated = truncated_goes_on; too_long = too_long_goes_on }
