use Rattle.std.proofs.Common.{ap, subst}
use Rattle.std.specs.Prelude.{IsTrue, ◌↔◌, List}
use Rattle.wordset.specs.Words.{Words}
use Rattle.wordset.specs.Lanes.{words}
use Rattle.domain.specs.Facts.{Fact, Place}
use Rattle.domain.specs.FactInCode.{fact_in_code}
use Rattle.facts.specs.Entailment.{Lands, IsIdle}
use Rattle.judge.specs.Landing.{place_in, sited}
use Rattle.judge.specs.Points.{case_of}
use Rattle.judge.proofs.PointLemmas.{made_place, lands_inside, lands_outside}
use Rattle.judge.proofs.point.Point.lands.Goals as goal

pub returns-then-not-is_inside-clause-lands : goal.returns-then-not-is_inside-clause-lands
returns-then-not-is_inside-clause-lands g c =
    let here = made_place g.C.Claims.claims c.args.self.now c.place_of-place.result c.args.owner.now c.requires.point c.place_of-place.ensures.image c.place_of-place.ensures.declaration c.place_of-place.ensures.routine c.place_of-place.ensures.rules in
    lands_outside (case_of g.C.Claims.claims c.args.self.now) c.args.owner.now c.args.at (fact_in_code c.args.known.now) _ _ c.is_inside.ensures c.if-not-is_inside.true
    (subst (λ (p : Place). IsTrue c.is_idle.result ↔ IsIdle p.rules p (fact_in_code c.args.known.now)) here c.is_idle.ensures.idle)

pub returns-clause-lands : goal.returns-clause-lands
returns-clause-lands g c =
    let here = made_place g.C.Claims.claims c.args.self.now c.place_of-place.result c.args.owner.now c.requires.point c.place_of-place.ensures.image c.place_of-place.ensures.declaration c.place_of-place.ensures.routine c.place_of-place.ensures.rules in
    let among = ap (λ (s : Words). sited (case_of g.C.Claims.claims c.args.self.now).certificate.rules s ((case_of g.C.Claims.claims c.args.self.now).certificate.facts c.args.at)) c.requires.sites in
    lands_inside (case_of g.C.Claims.claims c.args.self.now) c.args.owner.now c.args.at (fact_in_code c.args.known.now) _ _ c.is_inside.ensures c.if-not-is_inside.false
    (subst (λ (fs : List Fact). IsTrue c.lands.result ↔ Lands (place_in (case_of g.C.Claims.claims c.args.self.now) c.args.owner.now) (fact_in_code c.args.known.now) fs) among
    (subst (λ (p : Place). IsTrue c.lands.result ↔ Lands p (fact_in_code c.args.known.now) (sited (case_of g.C.Claims.claims c.args.self.now).certificate.rules (words c.args.sites.now) ((case_of g.C.Claims.claims c.args.self.now).certificate.facts c.args.at))) here c.lands.ensures.lands))
