use Rattle.certificate_lines.specs.FieldsLeft.{left}
use Rattle.certificate_lines.proofs.RunLemmas.{WordsRead, how_long}
use Rattle.certificate_lines.proofs.fields.Fields.runs.Given as goal

abbrev pub invariant-loop-self : goal.invariant-loop-self
invariant-loop-self l = WordsRead (left l.fn.self) (left l.self) l.fn.runs.items l.runs.items l.next

abbrev pub decreases-loop-self : goal.decreases-loop-self
decreases-loop-self l = how_long (left l.self)
