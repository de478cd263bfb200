use Rattle.std.proofs.Common.{refl}
use Rattle.certificate_lines.specs.FieldsLeft.{left}
use Rattle.certificate_lines.proofs.RunLemmas.{dash_read}
use Rattle.certificate_lines.proofs.fields.Fields.set.Goals as goal

pub returns-then-takes-clause-read : goal.returns-then-takes-clause-read
returns-then-takes-clause-read c =
    (dash_read (left c.args.self.now) (left c.takes.new.self) c.args.runs.now.items (c.if-takes.ensures.taken refl) c.if-takes.ensures.only).read

pub returns-then-takes-clause-only : goal.returns-then-takes-clause-only
returns-then-takes-clause-only c =
    (dash_read (left c.args.self.now) (left c.takes.new.self) c.args.runs.now.items (c.if-takes.ensures.taken refl) c.if-takes.ensures.only).only
