use Rattle.std.specs.Prelude.{IsTrue, ◌↔◌, List}
use Rattle.std.proofs.Common.{None, ap, subst}
use Rattle.domain.specs.Facts.{Place, Fact}
use Rattle.facts.specs.Entailment.{Lands}
use Rattle.facts.specs.Starts.{start_fact}
use Rattle.wordset.specs.Words.{Words}
use Rattle.wordset.specs.Lanes.{words}
use Rattle.judge.specs.Landing.{place_in, sited}
use Rattle.judge.specs.Judged.{case_kept}
use Rattle.judge.proofs.LineLemmas.{start_iff, start_place}
use Rattle.judge.proofs.case.Case.starts_well.Goals as goal

pub returns-clause-starts : goal.returns-clause-starts
returns-clause-starts g c =
    let here = start_place g.C.Claims.claims c.args.self.now c.place_of-place.result _ c.place_of-place.ensures.image c.place_of-place.ensures.declaration c.place_of-place.ensures.routine c.place_of-place.ensures.rules c.rules.ensures in
    let among = ap (λ (s : Words). sited (case_kept g.C.Claims.claims c.args.self.now).certificate.rules s ((case_kept g.C.Claims.claims c.args.self.now).certificate.facts c.start.result)) c.empty.ensures in
    start_iff (case_kept g.C.Claims.claims c.args.self.now) _ c.start.result c.is_declared.ensures c.start.ensures
    (subst (λ (fs : List Fact). IsTrue c.starts_land.result ↔ Lands (place_in (case_kept g.C.Claims.claims c.args.self.now) None) (start_fact (case_kept g.C.Claims.claims c.args.self.now).image) fs) among
    (subst (λ (p : Place). IsTrue c.starts_land.result ↔ Lands p (start_fact p.image) (sited (case_kept g.C.Claims.claims c.args.self.now).certificate.rules (words c.empty.result) ((case_kept g.C.Claims.claims c.args.self.now).certificate.facts c.start.result))) here c.starts_land.ensures))
