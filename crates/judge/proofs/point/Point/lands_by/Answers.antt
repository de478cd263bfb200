use Rattle.std.proofs.Common.{ap, sym, subst, arith}
use Rattle.std.specs.Prelude.{IsTrue, ◌↔◌, List, true, false}
use Rattle.wordset.specs.Words.{Words}
use Rattle.wordset.specs.Lanes.{words}
use Rattle.domain.specs.Facts.{Fact}
use Rattle.domain.specs.FactInCode.{fact_in_code}
use Rattle.judge.specs.Landing.{sited, EachLandsAfter}
use Rattle.judge.specs.Callees.{LandsWith}
use Rattle.judge.specs.Points.{case_of, fact_asked}
use Rattle.transfer.proofs.EntailLemmas.{not_both}
use Rattle.judge.proofs.CallLemmas.{one_lands, one_lacks, all_land}
use Rattle.judge.proofs.point.Point.lands_by.Goals as goal

pub returns-then-not-lands_with : goal.returns-then-not-lands_with
returns-then-not-lands_with g c =
    subst (λ (ys : List Fact). IsTrue false ↔ EachLandsAfter (case_of g.C.Claims.claims c.args.self.now) c.args.self.now.place.routine c.args.self.now.at c.args.entry c.args.offset (fact_asked c.args.self.now) ys) (ap (λ (s : Words). sited (case_of g.C.Claims.claims c.args.self.now).certificate.rules s ((case_of g.C.Claims.claims c.args.self.now).certificate.exits c.args.entry c.args.offset)) c.requires.sites)
    (one_lacks (case_of g.C.Claims.claims c.args.self.now) c.args.self.now.place.routine c.args.self.now.at c.args.entry c.args.offset (fact_asked c.args.self.now) (sited (case_of g.C.Claims.claims c.args.self.now).certificate.rules (words c.args.callee.now.sites) ((case_of g.C.Claims.claims c.args.self.now).certificate.exits c.args.entry c.args.offset)) c.loop-index.index (fact_in_code c.put.new.fact) (omega (arith, c.loop-index-test.true, c.len-index-end.ensures)) c.put.ensures
    (λ l. not_both _ c.if-not-lands_with.true c.lands_with.ensures.1 (subst (λ (w : Words). LandsWith (case_of g.C.Claims.claims c.args.self.now) c.args.self.now.place.routine c.args.self.now.at w c.args.offset (fact_asked c.args.self.now) (fact_in_code c.put.new.fact)) (sym c.requires.writes) l)) c.loop-index.invariant)

pub loop-index-preserved : goal.loop-index-preserved
loop-index-preserved g c =
    one_lands (case_of g.C.Claims.claims c.args.self.now) c.args.self.now.place.routine c.args.self.now.at c.args.entry c.args.offset (fact_asked c.args.self.now) (sited (case_of g.C.Claims.claims c.args.self.now).certificate.rules (words c.args.callee.now.sites) ((case_of g.C.Claims.claims c.args.self.now).certificate.exits c.args.entry c.args.offset)) c.loop-index.index (fact_in_code c.put.new.fact) (omega (arith, c.loop-index-test.true, c.len-index-end.ensures)) c.put.ensures
    (subst (λ (w : Words). LandsWith (case_of g.C.Claims.claims c.args.self.now) c.args.self.now.place.routine c.args.self.now.at w c.args.offset (fact_asked c.args.self.now) (fact_in_code c.put.new.fact)) c.requires.writes (c.lands_with.ensures.0 c.if-not-lands_with.false)) c.loop-index.invariant

pub returns : goal.returns
returns g c =
    subst (λ (ys : List Fact). IsTrue true ↔ EachLandsAfter (case_of g.C.Claims.claims c.args.self.now) c.args.self.now.place.routine c.args.self.now.at c.args.entry c.args.offset (fact_asked c.args.self.now) ys) (ap (λ (s : Words). sited (case_of g.C.Claims.claims c.args.self.now).certificate.rules s ((case_of g.C.Claims.claims c.args.self.now).certificate.exits c.args.entry c.args.offset)) c.requires.sites)
    (all_land (case_of g.C.Claims.claims c.args.self.now) c.args.self.now.place.routine c.args.self.now.at c.args.entry c.args.offset (fact_asked c.args.self.now) (sited (case_of g.C.Claims.claims c.args.self.now).certificate.rules (words c.args.callee.now.sites) ((case_of g.C.Claims.claims c.args.self.now).certificate.exits c.args.entry c.args.offset)) c.loop-index.index (omega (arith, c.loop-index-test.false, c.len-index-end.ensures)) c.loop-index.invariant)
