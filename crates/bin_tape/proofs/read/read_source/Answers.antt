use Rattle.std.proofs.Common.{Bool, ◌∙◌, false, ◌≡◌, ◌<◌, ◌≤◌, List, ℕ, length, take, drop, length-append, arith, rules, refl}
use Rattle.std.proofs.lemmas.List.{length-take-le, take-append-le, length-drop}
use Rattle.bin_tape.specs.Reading.{run, reads}
use Rattle.bin_tape.proofs.Runs.{reads_none, end_answers, fault_answers}
use Rattle.bin_tape.proofs.Served.{fault_told, came_none, came_on, serve_closed, serve_long, serve_end, serve_failed}
use Rattle.bin_tape.proofs.read.read_source.Goals as goal

pub loop-at-init : goal.loop-at-init
loop-at-init g c = (came_none _ c.new-reader.result (rw reads_none c.new-reader.ensures) (rw reads_none tt), omega arith, refl, c.requires.unmarked)

pub returns-then-count-eq0-clause-serves : goal.returns-then-count-eq0-clause-serves
returns-then-count-eq0-clause-serves g c =
    let came = c.loop-at.invariant.0 in
    let none : c.in-Ok.count ≡ 0 = c.if-count-eq0.true in
    let sized : length (take c.min-room.result c.loop-at.piece) ≡ c.min-room.result = length-take-le c.min-room.result c.loop-at.piece (omega arith) in
    let some_room : 0 < length c.read.new.piece = omega (arith, sized, c.read.auto.piece) in
    serve_end _ _ _ c.loop-at.at c.loop-at.reader _ c.loop-at.invariant.1 came (rw none at c.in-Ok.ensures.bytes.0) (c.in-Ok.ensures.bytes.1 none some_room)
    (c.unfinished.ensures.answer (reads came.given) came.shows came.unanswered)

pub loop-at-preserved : goal.loop-at-preserved
loop-at-preserved g c =
    let came = c.loop-at.invariant.0 in
    let fed = c.feed_all.ensures (reads came.given) came.shows came.unanswered in
    let within : c.in-Ok.count ≤ length c.read.new.piece = c.in-Ok.ensures.count in
    let front : List ℕ = take c.in-Ok.count c.read.new.piece in
    let is : length front ≡ c.in-Ok.count = length-take-le c.in-Ok.count c.read.new.piece within in
    let sized : length (take c.min-room.result c.loop-at.piece) ≡ c.min-room.result = length-take-le c.min-room.result c.loop-at.piece (omega arith) in
    let fed' = rw (take-append-le c.in-Ok.count c.read.new.piece _ within) at fed in
    (came_on _ _ _ c.loop-at.at c.loop-at.reader front came c.in-Ok.ensures.bytes.0 c.in-Ok.count c.feed_all.new.self is fed'.0 (rw (← c.in-More.is) fed'.1), omega (arith, within, sized, c.read.auto.piece), omega (arith, length-append c.read.new.piece (drop c.min-room.result c.loop-at.piece), length-drop c.min-room.result c.loop-at.piece, sized, c.read.auto.piece), search (rules, c.loop-at.invariant.3, c.in-Ok.ensures.marks))

pub returns-in-End-clause-serves : goal.returns-in-End-clause-serves
returns-in-End-clause-serves g c =
    let came = c.loop-at.invariant.0 in
    let fed = c.feed_all.ensures (reads came.given) came.shows came.unanswered in
    let within : c.in-Ok.count ≤ length c.read.new.piece = c.in-Ok.ensures.count in
    let front : List ℕ = take c.in-Ok.count c.read.new.piece in
    let is : length front ≡ c.in-Ok.count = length-take-le c.in-Ok.count c.read.new.piece within in
    let sized : length (take c.min-room.result c.loop-at.piece) ≡ c.min-room.result = length-take-le c.min-room.result c.loop-at.piece (omega arith) in
    let fed' = rw (take-append-le c.in-Ok.count c.read.new.piece _ within) at fed in
    let end = λ (longer : Bool). end_answers longer (run c.loop-at.at (reads came.given) front) c.feed_all.new.self fed'.0 (rw (← c.in-End.is) fed'.1) in
    serve_closed _ _ _ c.loop-at.at c.loop-at.reader front came c.in-Ok.ensures.bytes.0 _ (omega (arith, is, within, sized, c.read.auto.piece)) (omega (arith, is, within, sized, c.read.auto.piece)) (end false).0 (λ longer. (end longer).1)

pub returns-in-Fault-clause-serves : goal.returns-in-Fault-clause-serves
returns-in-Fault-clause-serves g c =
    let came = c.loop-at.invariant.0 in
    let fed = c.feed_all.ensures (reads came.given) came.shows came.unanswered in
    let within : c.in-Ok.count ≤ length c.read.new.piece = c.in-Ok.ensures.count in
    let front : List ℕ = take c.in-Ok.count c.read.new.piece in
    let is : length front ≡ c.in-Ok.count = length-take-le c.in-Ok.count c.read.new.piece within in
    let sized : length (take c.min-room.result c.loop-at.piece) ≡ c.min-room.result = length-take-le c.min-room.result c.loop-at.piece (omega arith) in
    let fed' = rw (take-append-le c.in-Ok.count c.read.new.piece _ within) at fed in
    let end = λ (longer : Bool). fault_answers longer (run c.loop-at.at (reads came.given) front) c.in-Fault.fault (rw (← c.in-Fault.is) fed'.1) in
    serve_closed _ _ _ c.loop-at.at c.loop-at.reader front came c.in-Ok.ensures.bytes.0 _ (omega (arith, is, within, sized, c.read.auto.piece)) (omega (arith, is, within, sized, c.read.auto.piece)) (end false).0 (λ longer. (end longer).1)

pub returns-in-Ok-eq0-clause-serves : goal.returns-in-Ok-eq0-clause-serves
returns-in-Ok-eq0-clause-serves g c =
    let came = c.loop-at.invariant.0 in
    let none : c.in-Ok-eq0.field-0 ≡ 0 = c.in-Ok-eq0.field-0-test in
    let sized : length (take 1 c.loop-at.piece) ≡ 1 = length-take-le 1 c.loop-at.piece (omega arith) in
    let some_room : 0 < length c.read-2.new.piece = omega (arith, sized, c.read-2.auto.piece) in
    serve_end _ _ _ c.loop-at.at c.loop-at.reader _ c.loop-at.invariant.1 came (rw none at c.in-Ok-eq0.ensures.bytes.0) (c.in-Ok-eq0.ensures.bytes.1 none some_room)
    (c.unfinished-in-Ok-eq0.ensures.answer (reads came.given) came.shows came.unanswered)

pub returns-in-Ok-read-clause-serves : goal.returns-in-Ok-read-clause-serves
returns-in-Ok-read-clause-serves g c =
    let came = c.loop-at.invariant.0 in
    let sized : length (take 1 c.loop-at.piece) ≡ 1 = length-take-le 1 c.loop-at.piece (omega arith) in
    let within : c.in-Ok-read.field-0 ≤ length c.read-2.new.piece = c.in-Ok-read.ensures.count in
    let is : length (take c.in-Ok-read.field-0 c.read-2.new.piece) ≡ c.in-Ok-read.field-0 = length-take-le c.in-Ok-read.field-0 c.read-2.new.piece within in
    serve_long _ _ _ c.loop-at.at c.loop-at.reader (take c.in-Ok-read.field-0 c.read-2.new.piece) came c.in-Ok-read.ensures.bytes.0
    (omega (arith, is, within, sized, c.read-2.auto.piece, c.in-Ok-read.field-0-test.1)) (omega arith)

pub returns-in-Err-clause-serves : goal.returns-in-Err-clause-serves
returns-in-Err-clause-serves g c = serve_failed _ _ _ c.loop-at.at c.loop-at.reader c.loop-at.invariant.1 c.loop-at.invariant.0 c.in-Err.ensures.bytes

pub returns-in-Err-read-clause-serves : goal.returns-in-Err-read-clause-serves
returns-in-Err-read-clause-serves g c = serve_failed _ _ _ c.loop-at.at c.loop-at.reader c.loop-at.invariant.1 c.loop-at.invariant.0 c.in-Err-read.ensures.bytes

pub returns-in-Fault-clause-marks : goal.returns-in-Fault-clause-marks
returns-in-Fault-clause-marks g c =
    let came = c.loop-at.invariant.0 in
    let fed = c.feed_all.ensures (reads came.given) came.shows came.unanswered in
    let kind = fault_told c.loop-at.at came.given _ c.feed_all.result c.in-Fault.fault came.count c.in-Fault.is fed.1 in
    c.in-Ok.ensures.marks ∙ rw (c.loop-at.invariant.3, kind) refl
