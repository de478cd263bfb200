use Rattle.std.proofs.Common.{true, refl, ap, arith}
use Rattle.wordset.specs.Lanes.{words}
use Rattle.domain.specs.FactInCode.{fact_in_code, rules_of}
use Rattle.judge.specs.Judged.{case_kept}
use Rattle.judge.proofs.SourceLemmas.{sited_from}
use Rattle.judge.proofs.CaseLemmas.{asked_equations, not_asked, is_asked, claimed_roomy}
use Rattle.judge.proofs.case.Case.check_claimed.Goals as goal

pub check_asked-requires : goal.check_asked-requires
check_asked-requires g c = (
  omega arith,
  (
    claimed_roomy _ (sited_from _ _ _ _ c.put_sites.ensures c.requires.shape) c.is_within_room.ensures.cells c.is_within_room.ensures.relations,
    (
      omega arith,
      (
        omega arith,
        (c.requires.low, (c.requires.high, (c.requires.stands, (c.requires.body, c.requires.ahead)))),
      ),
    ),
  ),
)

pub put_asked-requires : goal.put_asked-requires
put_asked-requires g c = sited_from _ _ _ _ c.put_sites.ensures c.requires.shape

pub returns-in-OfEquations : goal.returns-in-OfEquations
returns-in-OfEquations g c =
    is_asked (case_kept g.C.Claims.claims c.args.self.now) c.args.body.now.routine c.args.at (rules_of c.rules-rules.result) (words c.args.body.now.claim.sites) (fact_in_code c.args.claimed.now) _ (fact_in_code c.put_sites.new.fact) (fact_in_code c.put_sites.new.fact) c.args.limit _ _ true
    c.rules-rules.ensures c.requires.body.sites refl c.if-not-allows.false c.allows.ensures c.put_sites.ensures
    (asked_equations (rules_of c.rules-rules.result) _ (fact_in_code c.put_sites.new.fact) (fact_in_code c.put_sites.new.fact) (ap rules_of c.in-OfEquations.is) refl) refl c.check_asked.ensures

pub returns-then-not-put_asked : goal.returns-then-not-put_asked
returns-then-not-put_asked g c =
    not_asked (case_kept g.C.Claims.claims c.args.self.now) c.args.body.now.routine c.args.at (rules_of c.rules-rules.result) (words c.args.body.now.claim.sites) (fact_in_code c.args.claimed.now) _ _ (fact_in_code c.put_asked.new.fact) c.args.limit _ _
    c.requires.low c.rules-rules.ensures c.requires.body.sites refl c.if-not-allows.false c.allows.ensures c.put_sites.ensures c.put_asked.ensures.asked c.if-not-put_asked.true

pub returns-else-not-put_asked : goal.returns-else-not-put_asked
returns-else-not-put_asked g c =
    is_asked (case_kept g.C.Claims.claims c.args.self.now) c.args.body.now.routine c.args.at (rules_of c.rules-rules.result) (words c.args.body.now.claim.sites) (fact_in_code c.args.claimed.now) _ _ (fact_in_code c.put_asked.new.fact) c.args.limit _ _ _
    c.rules-rules.ensures c.requires.body.sites refl c.if-not-allows.false c.allows.ensures c.put_sites.ensures c.put_asked.ensures.asked c.if-not-put_asked.false c.check_asked-in-OfSums.ensures
