use Rattle.command_laws.proofs.SourceLaws.{tape_is_there, empty_has_no_tape, tape_is_one, meant_is_read, read_is_meant}
use Rattle.command_laws.proofs.laws.sources_are_read_back.Goals as goal

pub returns : goal.returns
returns c = record {
  there = tape_is_there c.meant_are_words.ensures;
  empty = empty_has_no_tape c.sources_have_one_answer.ensures.meaning;
  tape = tape_is_one c.sources_have_one_answer.ensures.meaning;
  read = meant_is_read c.sources_have_one_answer.ensures.meaning;
  meant = read_is_meant;
}
