use Rattle.std.proofs.Common.{◌+◌, ◌<◌, List, ℕ, length, take, get_or, arith}
use Rattle.bin_tape.specs.declared.reader.FrameResult.TheVariants.{More}
use Rattle.bin_tape.specs.Reading.{run, next}
use Rattle.bin_tape.specs.Holds.{Shows, Tells}
use Rattle.bin_tape.proofs.Runs.{run_none, run_more, run_early, closed, more_open}
use Rattle.bin_tape.proofs.reader.TapeParser.feed_all.Goals as goal

pub loop-i-init : goal.loop-i-init
loop-i-init c p s o = rw run_none (s, o)

pub loop-i-preserved : goal.loop-i-preserved
loop-i-preserved c p s o =
    let fs : List ℕ = c.args.frames.now in
    let within : c.loop-i.i < length fs = omega arith in
    let before = c.loop-i.invariant p s o in
    let fed = c.feed.ensures (run c.args.at p (take c.loop-i.i fs)) before.0 before.1 in
    let more : Tells (next (c.args.at + c.loop-i.i) (run c.args.at p (take c.loop-i.i fs)) (get_or fs c.loop-i.i 0)) More = rw (← c.in-More.is) fed.1 in
    rw (run_more c.args.at c.loop-i.i p fs within) (fed.0, more_open _ more)

pub returns-in_default : goal.returns-in_default
returns-in_default c p s o =
    let fs : List ℕ = c.args.frames.now in
    let within : c.loop-i.i < length fs = omega arith in
    let before = c.loop-i.invariant p s o in
    let fed = c.feed.ensures (run c.args.at p (take c.loop-i.i fs)) before.0 before.1 in
    let here : Shows (run c.args.at p (take (c.loop-i.i + 1) fs)) c.feed.new.self × Tells (run c.args.at p (take (c.loop-i.i + 1) fs)) c.feed.result = rw (run_more c.args.at c.loop-i.i p fs within) fed in
    rw (run_early c.args.at (c.loop-i.i + 1) p fs (closed _ c.feed.result here.1 c.in_default.not-More)) here
