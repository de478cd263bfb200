use Rattle.std.proofs.Common.{sym, ◌∙◌}
use Rattle.wordset.specs.Lanes.{words}
use Rattle.judge.specs.Points.{case_of, fact_asked}
use Rattle.judge.proofs.AskedLemmas.{few_where_asked}
use Rattle.judge.proofs.point.Point.are_few.Goals as goal

pub returns : goal.returns
returns g c = few_where_asked (case_of g.C.Claims.claims c.args.self.now) c.args.condition c.args.self.now.place.routine c.args.self.now.at (fact_asked c.args.self.now) (words c.args.possible.now) c.count.result c.requires c.count.ensures (sym c.asks_few.ensures ∙ c.if-not-asks_few.false)
