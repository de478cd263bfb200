use Rattle.command_laws.proofs.OrderLemmas.{one_in_order, work_reads_nothing}
use Rattle.command_laws.proofs.laws.single_inputs_are_told.Goals as goal

pub returns : goal.returns
returns g c = record {
  tape = λ work tape result h. one_in_order result (work_reads_nothing work) h;
  certificate = λ work certificate result h. one_in_order result (work_reads_nothing work) h;
}
