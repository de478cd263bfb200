use Rattle.command_parts.proofs.InputLemmas.{takes_no_text}
use Rattle.command_laws.proofs.OrderLemmas.{as_it_was, certificate_comes_behind, events_come_behind, takes_no_certificate, three_in_order, work_comes_behind, work_reads_nothing}
use Rattle.command_laws.proofs.laws.three_inputs_are_read_in_order.Goals as goal

pub returns : goal.returns
returns g c = record {
  certified = λ work tape old new old_third new_third result readable third_readable h.
      three_in_order result (λ same. as_it_was g.D.ByteSource.mark g.D.ByteSource.remaining old new readable same)
      (λ same. as_it_was g.E.ByteSource.mark g.E.ByteSource.remaining old_third new_third third_readable same)
      (takes_no_certificate (g.E.ByteSource.remaining old_third)) (work_reads_nothing work) (work_comes_behind work) (certificate_comes_behind _) h;
  run = λ work tape old new old_third new_third result readable third_readable h.
      three_in_order result (λ same. as_it_was g.D.ByteSource.mark g.D.ByteSource.remaining old new readable same)
      (λ same. as_it_was g.E.ByteSource.mark g.E.ByteSource.remaining old_third new_third third_readable same)
      (takes_no_text 65537 (g.E.ByteSource.remaining old_third)) (work_reads_nothing work) (work_comes_behind work) (events_come_behind _) h;
}
