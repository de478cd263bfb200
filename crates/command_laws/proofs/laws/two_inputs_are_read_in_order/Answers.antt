use Rattle.command_laws.proofs.OrderLemmas.{as_it_was, two_in_order, work_comes_behind, work_reads_nothing}
use Rattle.command_laws.proofs.laws.two_inputs_are_read_in_order.Goals as goal

pub returns : goal.returns
returns g c = λ work tape old new result readable h.
    two_in_order result (λ same. as_it_was g.D.ByteSource.mark g.D.ByteSource.remaining old new readable same) (work_reads_nothing work) (work_comes_behind work) h
