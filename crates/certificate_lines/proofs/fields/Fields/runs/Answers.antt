use Rattle.std.proofs.Common.{refl}
use Rattle.word12.specs.Words.{octal_text}
use Rattle.certificate_lines.specs.FieldsLeft.{left}
use Rattle.certificate_lines.proofs.RunLemmas.{no_words_read, words_go_on, no_room, ending, shorter}
use Rattle.certificate_lines.proofs.fields.Fields.runs.Goals as goal

pub loop-self-init : goal.loop-self-init
loop-self-init c = no_words_read (left c.args.self.now) c.args.runs.now.items

pub returns-in_default : goal.returns-in_default
returns-in_default c =
    let a = no_room (left c.args.self.now) (left c.loop-self.self) (left c.fail.new.self) c.args.runs.now.items c.loop-self.runs.items c.loop-self.next
    c.loop-self.invariant c.in_default.ensures.full c.fail.ensures in
    rw c.in_default.ensures.err (record { front = a.front; read = a.read; only = a.only })

pub returns-then-not-takes : goal.returns-then-not-takes
returns-then-not-takes c =
    let a = ending (left c.args.self.now) (left c.loop-self.self) (left c.run-first.new.self) (left c.takes.new.self) c.args.runs.now.items c.loop-self.runs.items c.try_push.new.self.items
    c.loop-self.next c.index-next.result (record { first = c.run-first.result.0; last = c.run-first.result.1 }) c.loop-self.invariant (record { read = c.run-first.ensures.read; order = c.run-first.ensures.order; only = c.run-first.ensures.only }) c.index-next.ensures.same c.index-next.ensures.small c.in-Ok.ensures.ok
    (c.if-not-takes.ensures.kept refl) c.if-not-takes.ensures.only in
    record { front = a.front; read = a.read; only = a.only }

pub loop-self-smaller : goal.loop-self-smaller
loop-self-smaller c =
    shorter octal_text (left c.loop-self.self) (left c.run-first.new.self) (left c.takes.new.self) c.run-first.result.0 c.run-first.result.1 c.run-first.ensures.read
    (c.if-not-takes.ensures.taken refl)

pub loop-self-preserved : goal.loop-self-preserved
loop-self-preserved c =
    words_go_on (left c.args.self.now) (left c.loop-self.self) (left c.run-first.new.self) (left c.takes.new.self) c.args.runs.now.items c.loop-self.runs.items
    c.try_push.new.self.items c.loop-self.next c.index-next.result (record { first = c.run-first.result.0; last = c.run-first.result.1 }) c.loop-self.invariant (record { read = c.run-first.ensures.read; order = c.run-first.ensures.order; only = c.run-first.ensures.only }) c.index-next.ensures.same c.index-next.ensures.small
    c.in-Ok.ensures.ok (c.if-not-takes.ensures.taken refl) c.if-not-takes.ensures.only
