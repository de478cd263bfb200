use Rattle.std.proofs.Common.{◌≡◌, ◌≤◌, ◌<◌, ◌∙◌, arith, rules, false, List, ℕ, length, take, drop, length-append, sym}
use Rattle.std.proofs.lemmas.List.{length-take-le, take-append-le, length-drop}
use Rattle.certificate_lines.specs.Pieces.{most_bytes}
use Rattle.certificate.specs.Parser.{IsParsed}
use Rattle.certificate.proofs.SumServedLemmas.{came_none, came_on, serve_failed, serve_end, serve_refused, no_read_parsed, no_read_refused}
use Rattle.certificate.proofs.SumParserLemmas.{was_read}
use Rattle.certificate.proofs.pieces.read_source.Goals as goal

pub loop-parser-init : goal.loop-parser-init
loop-parser-init g c = record {
  came = came_none _ c.new-parser.result c.new-parser.ensures.seen c.new-parser.ensures.small c.new-parser.ensures.count;
  count = sym c.new-parser.ensures.count;
  piece = search rules;
  unmarked = c.requires;
}

pub overflow_sub-at : goal.overflow_sub-at
overflow_sub-at g c =
    let few : c.loop-parser.parser.count ≤ most_bytes = c.loop-parser.invariant.came.small.count in
    let e = c.loop-parser.invariant.count in omega (arith, few, e)

pub returns-in-Err-clause-serves : goal.returns-in-Err-clause-serves
returns-in-Err-clause-serves g c = serve_failed _ _ _ c.loop-parser.parser c.loop-parser.invariant.came c.in-Err.ensures.bytes

pub finish-requires-clause-small : goal.finish-requires-clause-small
finish-requires-clause-small g c = c.loop-parser.invariant.came.small

pub finish-requires-clause-read : goal.finish-requires-clause-read
finish-requires-clause-read g c = was_read _ _ c.loop-parser.invariant.came.seen

pub returns-in-Ok-eq0 : goal.returns-in-Ok-eq0
returns-in-Ok-eq0 g c =
    let came = c.loop-parser.invariant.came in
    let none : c.in-Ok-eq0.field-0 ≡ 0 = c.in-Ok-eq0.field-0-test in
    let few : c.loop-parser.parser.count ≤ most_bytes = came.small.count in
    let e = c.loop-parser.invariant.count in
    let full = c.loop-parser.invariant.piece in
    let sized : length (take c.min-room.result c.loop-parser.piece) ≡ c.min-room.result = length-take-le c.min-room.result c.loop-parser.piece (omega (arith, few, e, full)) in
    let some_room : 0 < length c.read.new.piece = omega (arith, sized, few, e, full, c.read.auto.piece) in
    let answer = c.finish.ensures came.given came.seen came.count in
    let unmarked : g.R.ByteSource.mark c.read.new.self ≡ false = search (rules, c.loop-parser.invariant.unmarked, c.in-Ok-eq0.ensures.marks) in
    record {
      serves = serve_end _ _ _ c.loop-parser.parser c.finish.result came (rw none at c.in-Ok-eq0.ensures.bytes.0) (c.in-Ok-eq0.ensures.bytes.1 none some_room) answer;
      marks = unmarked ∙ sym (no_read_parsed (IsParsed came.given) came.given c.finish.result answer);
    }

pub take_all-requires : goal.take_all-requires
take_all-requires g c = c.loop-parser.invariant.came.small

pub returns-in-Err-take_all : goal.returns-in-Err-take_all
returns-in-Err-take_all g c =
    let came = c.loop-parser.invariant.came in
    let few : c.loop-parser.parser.count ≤ most_bytes = came.small.count in
    let e = c.loop-parser.invariant.count in
    let full = c.loop-parser.invariant.piece in
    let sized : length (take c.min-room.result c.loop-parser.piece) ≡ c.min-room.result = length-take-le c.min-room.result c.loop-parser.piece (omega (arith, few, e, full)) in
    let within : c.in-Ok.count ≤ length c.read.new.piece = c.in-Ok.ensures.count in
    let front : List ℕ = take c.in-Ok.count c.read.new.piece in
    let is : length front ≡ c.in-Ok.count = length-take-le c.in-Ok.count c.read.new.piece within in
    let seen = c.in-Err-take_all.ensures.seen came.given came.seen came.count in
    let refused = rw (take-append-le c.in-Ok.count c.read.new.piece (drop c.min-room.result c.loop-parser.piece) within) at seen in
    let unmarked : g.R.ByteSource.mark c.read.new.self ≡ false = search (rules, c.loop-parser.invariant.unmarked, c.in-Ok.ensures.marks) in
    record {
      serves = serve_refused _ _ _ c.loop-parser.parser front came c.in-Ok.ensures.bytes.0 c.in-Err-take_all.fault
          (omega (arith, is, within, sized, few, e, c.read.auto.piece)) (omega (arith, is, within, sized, few, e, c.read.auto.piece)) refused;
      marks = unmarked ∙ sym (no_read_refused _ c.in-Err-take_all.fault seen);
    }

pub loop-parser-smaller : goal.loop-parser-smaller
loop-parser-smaller g c =
    let few : c.loop-parser.parser.count ≤ most_bytes = c.loop-parser.invariant.came.small.count in
    let e = c.loop-parser.invariant.count in
    let some = c.in-Ok.count-test in
    omega (arith, few, e, some)

pub loop-parser-preserved : goal.loop-parser-preserved
loop-parser-preserved g c =
    let came = c.loop-parser.invariant.came in
    let few : c.loop-parser.parser.count ≤ most_bytes = came.small.count in
    let e = c.loop-parser.invariant.count in
    let full = c.loop-parser.invariant.piece in
    let sized : length (take c.min-room.result c.loop-parser.piece) ≡ c.min-room.result = length-take-le c.min-room.result c.loop-parser.piece (omega (arith, few, e, full)) in
    let within : c.in-Ok.count ≤ length c.read.new.piece = c.in-Ok.ensures.count in
    let front : List ℕ = take c.in-Ok.count c.read.new.piece in
    let is : length front ≡ c.in-Ok.count = length-take-le c.in-Ok.count c.read.new.piece within in
    let same = take-append-le c.in-Ok.count c.read.new.piece (drop c.min-room.result c.loop-parser.piece) within in
    let count = rw same at c.in_default.ensures.count in
    let seen = rw same at (c.in_default.ensures.seen came.given came.seen came.count) in
    record {
      came = came_on _ _ _ c.loop-parser.parser front came c.in-Ok.ensures.bytes.0 c.take_all.new.self count c.in_default.ensures.small seen;
      count = omega (arith, e, count, is);
      piece = omega (arith, full, length-append c.read.new.piece (drop c.min-room.result c.loop-parser.piece), length-drop c.min-room.result c.loop-parser.piece, sized, few, e, c.read.auto.piece);
      unmarked = search (rules, c.loop-parser.invariant.unmarked, c.in-Ok.ensures.marks);
    }
