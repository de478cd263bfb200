use Rattle.labels.proofs.MeantLemmas.{numbered_is_meant, numbered_is_tape}
use Rattle.labels.proofs.laws.numbered_programs_are_meant.Goals as goal

pub returns : goal.returns
returns c = record {
  meant = numbered_is_meant c.meant_are_words.ensures c.tapes_have_one_answer.ensures.image;
  tape = numbered_is_tape c.meant_are_words.ensures c.tapes_have_one_answer.ensures.either;
}
