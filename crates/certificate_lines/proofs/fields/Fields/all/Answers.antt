use Rattle.certificate_lines.proofs.PackedLemmas.{all_added}
use Rattle.certificate_lines.proofs.RunLemmas.{as_is}
use Rattle.certificate_lines.proofs.fields.Fields.all.Goals as goal

pub returns-in-Ok-clause-read : goal.returns-in-Ok-clause-read
returns-in-Ok-clause-read c =
    as_is _ (all_added _ _ (record { first = c.from_index-first.result; last = c.from_index-last.result }) c.from_index-first.ensures c.from_index-last.ensures c.in-Ok.ensures.ok)
