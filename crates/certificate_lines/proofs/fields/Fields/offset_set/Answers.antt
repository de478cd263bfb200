use Rattle.std.proofs.Common.{refl}
use Rattle.domain.specs.Offsets.{offsets_in}
use Rattle.certificate_lines.specs.FieldsLeft.{left}
use Rattle.certificate_lines.proofs.OffsetReadLemmas.{dash_read, set_read}
use Rattle.certificate_lines.proofs.fields.Fields.offset_set.Goals as goal

pub returns-then-takes : goal.returns-then-takes
returns-then-takes c =
    let d = dash_read (left c.args.self.now) (left c.takes.new.self) (offsets_in c.none.result) c.none.ensures (c.if-takes.ensures.taken refl) c.if-takes.ensures.only in
    record { read = d.read; only = d.only }

pub returns : goal.returns
returns c =
    let d = set_read (left c.args.self.now) (left c.takes.new.self) (left c.offset_runs.new.self) (offsets_in c.offset_runs.result)
    (c.if-takes.ensures.kept refl) c.if-takes.ensures.only (record { read = c.offset_runs.ensures.read; only = c.offset_runs.ensures.only }) in
    record { read = d.read; only = d.only }
