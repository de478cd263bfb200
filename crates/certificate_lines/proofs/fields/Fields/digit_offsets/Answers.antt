use Rattle.std.proofs.Common.{refl, ap, arith}
use Rattle.wordset.specs.Words.{Words}
use Rattle.domain.specs.Offsets.{offsets_in}
use Rattle.certificate_lines.specs.FieldsLeft.{left}
use Rattle.certificate_lines.proofs.DigitLemmas.{dash_read, offsets_read, offsets_fail, has_offset}
use Rattle.certificate_lines.proofs.fields.Fields.digit_offsets.Goals as goal

pub returns-then-takes : goal.returns-then-takes
returns-then-takes c =
    let d = dash_read (left c.args.self.now) (left c.takes.new.self) (offsets_in c.none.result) c.none.ensures
    (c.if-takes.ensures.taken refl) c.if-takes.ensures.only in
    record { ends = λ v past. ap (λ (f : Words). f v) c.none.ensures; read = d.read; only = d.only }

pub returns-then-is_empty-clause-only : goal.returns-then-is_empty-clause-only
returns-then-is_empty-clause-only c = λ s rest ends e.
    offsets_fail (left c.args.self.now) (left c.takes.new.self) (left c.digits-offsets.new.self) (offsets_in c.digits-offsets.result)
    (c.if-takes.ensures.kept refl) c.if-takes.ensures.only
    (record { read = c.digits-offsets.ensures.read; only = c.digits-offsets.ensures.only }) (λ v h. c.if-is_empty.ensures.0 refl v (omega (arith, h))) s rest ends e

pub returns-else-is_empty : goal.returns-else-is_empty
returns-else-is_empty c =
    let d = offsets_read (left c.args.self.now) (left c.takes.new.self) (left c.digits-offsets.new.self) (offsets_in c.digits-offsets.result)
    (c.if-takes.ensures.kept refl) c.if-takes.ensures.only
    (record { read = c.digits-offsets.ensures.read; only = c.digits-offsets.ensures.only })
    (has_offset (offsets_in c.digits-offsets.result) c.digits-offsets.ensures.ends c.if-is_empty.ensures.1) in
    record { ends = c.digits-offsets.ensures.ends; read = d.read; only = d.only }
