use Rattle.std.proofs.Common.{◌+◌, ◌∙◌, sym, drop, arith, get_or}
use Rattle.certificate_lines.specs.Lines.{End}
use Rattle.certificate_lines.specs.Packed.{said_lines}
use Rattle.certificate_lines.proofs.SumPackedLemmas.{line_at}
use Rattle.certificate_lines.proofs.SumDetailLemmas.{none_sofar, sofar_more, room_left, other_next, past_left, past_both}
use Rattle.certificate_lines.proofs.lines.add_details.Goals as goal

pub loop-at-init : goal.loop-at-init
loop-at-init g c = none_sofar c.args.fact.now (drop c.args.start (said_lines c.args.lines.now))

pub add_to-requires-clause-within : goal.add_to-requires-clause-within
add_to-requires-clause-within g c = omega (arith, c.len-at-end.ensures, c.loop-at-test.true)

pub add_to-requires-clause-room : goal.add_to-requires-clause-room
add_to-requires-clause-room g c =
    room_left c.args.fact.now c.loop-at.fact (drop c.args.start (said_lines c.args.lines.now)) (drop c.loop-at.at (said_lines c.args.lines.now))
    (drop (c.loop-at.at + 1) (said_lines c.args.lines.now)) (get_or (said_lines c.args.lines.now) c.loop-at.at End) (line_at (said_lines c.args.lines.now) c.loop-at.at (omega (arith, c.len-at-end.ensures, c.loop-at-test.true))) c.requires.room c.loop-at.invariant

pub loop-at-preserved : goal.loop-at-preserved
loop-at-preserved g c =
    sofar_more c.args.fact.now c.loop-at.fact c.add_to.new.fact (drop c.args.start (said_lines c.args.lines.now)) (drop c.loop-at.at (said_lines c.args.lines.now))
    (drop (c.loop-at.at + 1) (said_lines c.args.lines.now)) (get_or (said_lines c.args.lines.now) c.loop-at.at End) (line_at (said_lines c.args.lines.now) c.loop-at.at (omega (arith, c.len-at-end.ensures, c.loop-at-test.true))) c.loop-at.invariant (sym c.if-not-add_to.ensures.detail) c.if-not-add_to.ensures.says

pub returns-then-not-add_to : goal.returns-then-not-add_to
returns-then-not-add_to g c =
    let a = other_next c.args.fact.now c.loop-at.fact c.add_to.new.fact (drop c.args.start (said_lines c.args.lines.now)) (drop c.loop-at.at (said_lines c.args.lines.now))
    (drop (c.loop-at.at + 1) (said_lines c.args.lines.now)) (get_or (said_lines c.args.lines.now) c.loop-at.at End) (line_at (said_lines c.args.lines.now) c.loop-at.at (omega (arith, c.len-at-end.ensures, c.loop-at-test.true))) (sym c.if-not-add_to.ensures.detail) c.if-not-add_to.ensures.says c.loop-at.invariant in
    record { says = a.says; end = a.end }

pub returns : goal.returns
returns g c =
    let a = past_left c.args.fact.now c.loop-at.fact (drop c.args.start (said_lines c.args.lines.now)) (said_lines c.args.lines.now) c.loop-at.at
    (omega (arith, c.loop-at-test.false, c.len-at-end.ensures)) c.loop-at.invariant in
    record { says = a.says; end = rw c.len.ensures (past_both (said_lines c.args.lines.now) c.loop-at.at (omega (arith, c.loop-at-test.false, c.len-at-end.ensures)) ∙ a.end) }
