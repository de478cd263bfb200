use Rattle.domain.specs.Brief.{brief_words}
use Rattle.domain.specs.FactInCode.{fact_in_code}
use Rattle.std.proofs.Common.{◌∙◌, sym}
use Rattle.judge.specs.Points.{case_of}
use Rattle.judge.proofs.PointLemmas.{lands_at_one}
use Rattle.judge.proofs.point.Point.lands_at_brief.Goals as goal

pub returns-in-Some : goal.returns-in-Some
returns-in-Some g c = lands_at_one (case_of g.C.Claims.claims c.args.self.now) c.args.self.now.place.routine (brief_words c.args.targets.now) c.in-Some.at (fact_in_code c.args.known.now) _ (sym c.in-Some.is ∙ c.only.ensures) c.lands_here.ensures.lands
