use Rattle.std.proofs.Common.{arith}
use Rattle.judge.specs.Points.{HoldsOfPoint}
use Rattle.judge.proofs.AskedLemmas.{stops, one_passed, passes_all}
use Rattle.judge.proofs.point.Point.check_word.Goals as goal

pub returns-then-not-holds_for_only : goal.returns-then-not-holds_for_only
returns-then-not-holds_for_only g c = stops (HoldsOfPoint g.C.Claims.claims c.args.self.now) c.args.limit c.loop-place.place c.nth.result _ c.loop-place.invariant.0 c.loop-place-test.true c.requires.high c.loop-place.invariant.1 c.nth.ensures c.if-not-holds_for_only.true c.holds_for_only.ensures.1

pub loop-place-preserved : goal.loop-place-preserved
loop-place-preserved g c = (omega (arith, c.loop-place.invariant.0), one_passed (HoldsOfPoint g.C.Claims.claims c.args.self.now) c.loop-place.place c.nth.result c.nth.ensures (c.holds_for_only.ensures.0 c.if-not-holds_for_only.false) c.loop-place.invariant.1)

pub returns : goal.returns
returns g c = passes_all (HoldsOfPoint g.C.Claims.claims c.args.self.now) c.args.limit c.loop-place.place c.requires.low (omega (arith, c.loop-place-test.false)) c.loop-place.invariant.1
