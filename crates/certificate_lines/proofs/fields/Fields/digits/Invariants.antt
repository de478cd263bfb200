use Rattle.domain.specs.Offsets.{offsets_in}
use Rattle.certificate_lines.specs.FieldsLeft.{left}
use Rattle.certificate_lines.proofs.DigitLemmas.{DigitsRead}
use Rattle.certificate_lines.proofs.fields.Fields.digits.Given as goal

abbrev pub invariant-loop-digit : goal.invariant-loop-digit
invariant-loop-digit l = DigitsRead l.count l.digit (left l.fn.self) (left l.self) (offsets_in l.found)
