use Rattle.command_laws.proofs.SourceLaws.{meant_is_written, fault_is_told, fault_is_not_written, meant_is_listed, fault_is_the_one}
use Rattle.command_laws.proofs.laws.assemblies_are_exact.Goals as goal

pub returns : goal.returns
returns c = record {
  meant = meant_is_written c.sources_have_one_answer.ensures.meaning c.sources_have_one_answer.ensures.either;
  told = fault_is_told c.sources_have_one_answer.ensures.fault c.sources_have_one_answer.ensures.either;
  unwritten = fault_is_not_written c.sources_have_one_answer.ensures.either;
  listed = meant_is_listed c.sources_have_one_answer.ensures.either;
  one = fault_is_the_one c.sources_have_one_answer.ensures.fault;
}
