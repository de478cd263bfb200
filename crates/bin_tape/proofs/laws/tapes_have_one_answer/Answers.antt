use Rattle.bin_tape.proofs.OneAnswer.{one_tape, one_fault, no_fault, each_is_answered}
use Rattle.bin_tape.proofs.laws.tapes_have_one_answer.Goals as goal

pub returns : goal.returns
returns c = record { image = one_tape; fault = one_fault; either = no_fault; some = each_is_answered }
