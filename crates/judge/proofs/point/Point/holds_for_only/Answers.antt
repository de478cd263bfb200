use Rattle.std.proofs.Common.{◌<◌, subst}
use Rattle.judge.specs.Points.{case_of, fact_asked}
use Rattle.judge.proofs.AskedLemmas.{holds_only}
use Rattle.judge.proofs.point.Point.holds_for_only.Goals as goal

pub returns : goal.returns
returns g c = holds_only (case_of g.C.Claims.claims c.args.self.now) c.args.condition c.args.self.now.place.routine c.args.self.now.at (fact_asked c.args.self.now) c.args.word _ c.requires.only (subst (λ n. n < 4096) c.index-index.ensures.same c.index-index.ensures.small) c.holds_for.ensures
