use Rattle.std.proofs.Common.{subst}
use Rattle.std.specs.Prelude.{IsTrue, ◌↔◌}
use Rattle.wordset.specs.Lanes.{words}
use Rattle.domain.specs.Facts.{Place}
use Rattle.domain.specs.FactInCode.{fact_in_code}
use Rattle.domain.specs.declared.sum_fact.SumFact.{SumFact}
use Rattle.facts.specs.PlaceInCode.{place_in_code}
use Rattle.facts.specs.Entailment.{Entails}
use Rattle.judge.specs.Points.{case_of}
use Rattle.judge.proofs.PointLemmas.{same_place, lands_alone, lands_nowhere}
use Rattle.judge.proofs.point.Point.lands_ahead.Goals as goal

pub returns-then-not-is_inside : goal.returns-then-not-is_inside
returns-then-not-is_inside g c =
    lands_nowhere (case_of g.C.Claims.claims c.args.self.now) c.args.self.now.place.routine c.args.at (fact_in_code c.args.known.now) c.is_inside.result
    (c.requires.ahead c.args.at c.requires.there).rules c.is_inside.ensures c.if-not-is_inside.true

pub returns : goal.returns
returns g c =
    lands_alone (case_of g.C.Claims.claims c.args.self.now) c.args.self.now.place.routine c.args.at (words c.args.self.now.body.now.claim.sites) (fact_in_code c.args.known.now) (fact_in_code c.args.kept.now.fact) c.is_inside.result _
    c.requires.point.sites (c.requires.ahead c.args.at c.requires.there).rules (c.requires.ahead c.args.at c.requires.there).only c.is_inside.ensures c.if-not-is_inside.false
    (subst (λ (p : Place). IsTrue c.entails.result ↔ Entails p (fact_in_code c.args.known.now) (fact_in_code c.args.kept.now.fact)) (same_place g.C.Claims.claims c.args.self.now c.requires.point)
    (subst (λ (f : SumFact 64 32). IsTrue c.entails.result ↔ Entails (place_in_code c.args.self.now.place) (fact_in_code c.args.known.now) (fact_in_code f)) c.fact.ensures c.entails.ensures))
