use Rattle.std.proofs.Common.{true, false, sym}
use Rattle.std.proofs.Math.Bool.{or-false}
use Rattle.std.proofs.Math.Path.{fun_ext}
use Rattle.domain.specs.Offsets.{offsets_in}
use Rattle.certificate_lines.specs.FieldsLeft.{left}
use Rattle.certificate_lines.proofs.DigitLemmas.{no_digits, digit_tried, all_digits}
use Rattle.certificate_lines.proofs.fields.Fields.digits.Goals as goal
use Rattle.certificate_lines.proofs.fields.Fields.digits.Goals.{then-takes, else-takes}

pub loop-digit-init : goal.loop-digit-init
loop-digit-init c = no_digits c.args.count (left c.args.self.now) (offsets_in c.none-found.result) c.none-found.ensures

pub loop-digit-preserved : goal.loop-digit-preserved
loop-digit-preserved c = elim c.if-takes.branch [
  | then-takes w ↦ rw w.found-is (digit_tried _ _ _ _ _ _ _ true c.loop-digit-test.true c.loop-digit.invariant
      w.if-takes.ensures.taken w.if-takes.ensures.kept w.if-takes.ensures.only w.insert.ensures)
  | else-takes w ↦ rw w.found-is (digit_tried _ _ _ _ _ _ _ false c.loop-digit-test.true c.loop-digit.invariant
      w.if-takes.ensures.taken w.if-takes.ensures.kept w.if-takes.ensures.only (fun_ext (λ v. sym (or-false _))))
]

pub returns-clause-only : goal.returns-clause-only
returns-clause-only c =
    all_digits c.args.count c.loop-digit.digit (left c.args.self.now) (left c.loop-digit.self) (offsets_in c.loop-digit.found)
    c.loop-digit-test.false c.loop-digit.auto.digit-end c.loop-digit.invariant
