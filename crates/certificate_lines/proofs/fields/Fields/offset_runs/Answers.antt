use Rattle.std.proofs.Common.{refl}
use Rattle.domain.specs.Offsets.{offsets_in}
use Rattle.certificate_lines.specs.FieldsLeft.{left}
use Rattle.certificate_lines.specs.FieldSpelling.{rank_text}
use Rattle.certificate_lines.proofs.RunLemmas.{shorter}
use Rattle.certificate_lines.proofs.OffsetReadLemmas.{none_yet, go_on, ending, end_of}
use Rattle.certificate_lines.proofs.fields.Fields.offset_runs.Goals as goal

pub loop-found-init : goal.loop-found-init
loop-found-init c = none_yet (left c.args.self.now) (offsets_in c.none-found.result) c.none-found.ensures

pub returns-then-not-takes : goal.returns-then-not-takes
returns-then-not-takes c =
    let a = ending (left c.args.self.now) (left c.loop-found.self) (left c.offset_run-first.new.self) (left c.takes.new.self) (offsets_in c.loop-found.found)
    (offsets_in c.insert_run.new.found) c.loop-found.next (record { first = c.offset_run-first.result.0; last = c.offset_run-first.result.1 }) c.loop-found.invariant c.offset_run-first.ensures.small
    (record { read = c.offset_run-first.ensures.read; order = c.offset_run-first.ensures.order; only = c.offset_run-first.ensures.only })
    c.insert_run.ensures (end_of c.insert_run.new.found) (c.if-not-takes.ensures.kept refl) c.if-not-takes.ensures.only in
    record { read = a.read; only = a.only }

pub loop-found-smaller : goal.loop-found-smaller
loop-found-smaller c =
    shorter rank_text (left c.loop-found.self) (left c.offset_run-first.new.self) (left c.takes.new.self) c.offset_run-first.result.0 c.offset_run-first.result.1
    c.offset_run-first.ensures.read (c.if-not-takes.ensures.taken refl)

pub loop-found-preserved : goal.loop-found-preserved
loop-found-preserved c =
    go_on (left c.args.self.now) (left c.loop-found.self) (left c.offset_run-first.new.self) (left c.takes.new.self) (offsets_in c.loop-found.found)
    (offsets_in c.insert_run.new.found) c.loop-found.next (record { first = c.offset_run-first.result.0; last = c.offset_run-first.result.1 }) c.loop-found.invariant c.offset_run-first.ensures.small
    (record { read = c.offset_run-first.ensures.read; order = c.offset_run-first.ensures.order; only = c.offset_run-first.ensures.only })
    c.insert_run.ensures (c.if-not-takes.ensures.taken refl) c.if-not-takes.ensures.only
