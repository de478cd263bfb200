use Rattle.std.proofs.Common.{map}
use Rattle.domain.specs.ChainsInCode.{step_of}
use Rattle.certificate_lines.specs.FieldsLeft.{left}
use Rattle.certificate_lines.proofs.RunLemmas.{how_long}
use Rattle.certificate_lines.proofs.SumFieldLemmas.{StepsRead}
use Rattle.certificate_lines.proofs.fields.Fields.steps.Given as goal

abbrev pub invariant-loop-self : goal.invariant-loop-self
invariant-loop-self l = StepsRead (left l.fn.self) (left l.self) (map step_of l.steps.items)

abbrev pub decreases-loop-self : goal.decreases-loop-self
decreases-loop-self l = how_long (left l.self)
