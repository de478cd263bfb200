use Rattle.judge.specs.Points.{case_of, fact_asked}
use Rattle.transfer.proofs.EntailLemmas.{not_both}
use Rattle.judge.proofs.CallLemmas.{lands_further, lands_everywhere, lacks_one}
use Rattle.judge.proofs.point.Point.lands_after.Goals as goal

pub returns-then-not-lands_by : goal.returns-then-not-lands_by
returns-then-not-lands_by g c = lacks_one (case_of g.C.Claims.claims c.args.self.now) c.args.self.now.place.routine c.args.self.now.at c.args.entry c.in-Some.offset (fact_asked c.args.self.now) c.in-Some.ensures.0 (not_both _ c.if-not-lands_by.true c.lands_by.ensures.1)

pub loop-offset-preserved : goal.loop-offset-preserved
loop-offset-preserved g c = lands_further (case_of g.C.Claims.claims c.args.self.now) c.args.self.now.place.routine c.args.self.now.at c.args.entry c.loop-offset.from c.in-Some.offset (fact_asked c.args.self.now) c.in-Some.ensures.1 (c.lands_by.ensures.0 c.if-not-lands_by.false) c.loop-offset.invariant

pub returns : goal.returns
returns g c = lands_everywhere (case_of g.C.Claims.claims c.args.self.now) c.args.self.now.place.routine c.args.self.now.at c.args.entry c.loop-offset.from (fact_asked c.args.self.now) c.in_default.ensures c.loop-offset.invariant
