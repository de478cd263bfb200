use Rattle.std.proofs.Common.{refl}
use Rattle.wordset.specs.Lanes.{words}
use Rattle.wordset.proofs.IterLemmas.{one_fails, all_pass}
use Rattle.judge.specs.Points.{case_of, fact_asked}
use Rattle.judge.proofs.AskedLemmas.{each_possible}
use Rattle.judge.proofs.point.Point.holds_for_each.Goals as goal

pub returns-then-not-holds_for : goal.returns-then-not-holds_for
returns-then-not-holds_for g c = each_possible (case_of g.C.Claims.claims c.args.self.now) c.args.condition c.args.self.now.place.routine c.args.self.now.at (fact_asked c.args.self.now) (words c.args.possible.now) _ c.requires.possible (one_fails _ c.loop-word.invariant c.in-Some.ensures.steps c.if-not-holds_for.true c.holds_for.ensures.1)

pub returns : goal.returns
returns g c = each_possible (case_of g.C.Claims.claims c.args.self.now) c.args.condition c.args.self.now.place.routine c.args.self.now.at (fact_asked c.args.self.now) (words c.args.possible.now) _ c.requires.possible (λ q. all_pass c.loop-word.invariant c.in-None.ensures.steps, λ each. refl)
