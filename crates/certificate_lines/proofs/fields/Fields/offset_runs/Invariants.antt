use Rattle.domain.specs.Offsets.{offsets_in}
use Rattle.certificate_lines.specs.FieldsLeft.{left}
use Rattle.certificate_lines.proofs.RunLemmas.{how_long}
use Rattle.certificate_lines.proofs.OffsetReadLemmas.{OffsetsSofar}
use Rattle.certificate_lines.proofs.fields.Fields.offset_runs.Given as goal

abbrev pub invariant-loop-found : goal.invariant-loop-found
invariant-loop-found l = OffsetsSofar (left l.fn.self) (left l.self) (offsets_in l.found) l.next

abbrev pub decreases-loop-found : goal.decreases-loop-found
decreases-loop-found l = how_long (left l.self)
