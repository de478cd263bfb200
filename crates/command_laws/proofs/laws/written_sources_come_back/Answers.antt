use Rattle.command_laws.proofs.SourceLaws.{written_is_assembled, assembled_is_written}
use Rattle.command_laws.proofs.laws.written_sources_come_back.Goals as goal

pub returns : goal.returns
returns c = record { there = written_is_assembled c.meant_are_words.ensures; only = assembled_is_written c.sources_have_one_answer.ensures.meaning }
