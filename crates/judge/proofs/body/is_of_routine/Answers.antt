use Rattle.domain.specs.FactInCode.{fact_in_code, rules_of}
use Rattle.std.proofs.Common.{true, ap, sym, subst}
use Rattle.std.specs.Prelude.{IsTrue, ◌↔◌, not}
use Rattle.domain.specs.Facts.{Rules}
use Rattle.judge.specs.Conditions.{HasSites}
use Rattle.judge.proofs.LineLemmas.{no_offset, of_routine, some_site, sites_free}
use Rattle.judge.proofs.body.is_of_routine.Goals as goal

pub returns-then-is_empty : goal.returns-then-is_empty
returns-then-is_empty c = no_offset (rules_of c.args.rules.now) (fact_in_code c.args.fact.now) _ _ c.offsets.ensures c.is_empty.ensures c.if-is_empty.true

pub returns-in-OfEquations : goal.returns-in-OfEquations
returns-in-OfEquations c = of_routine (rules_of c.args.rules.now) (fact_in_code c.args.fact.now) _ _ true c.offsets.ensures c.is_empty.ensures c.if-is_empty.false (sites_free (rules_of c.args.rules.now) (fact_in_code c.args.fact.now) (ap rules_of c.in-OfEquations.is))

pub returns-in-OfSums : goal.returns-in-OfSums
returns-in-OfSums c = of_routine (rules_of c.args.rules.now) (fact_in_code c.args.fact.now) _ _ _ c.offsets.ensures c.is_empty.ensures c.if-is_empty.false (subst (λ (k : Rules). IsTrue (not c.is_empty-in-OfSums.result) ↔ HasSites k (fact_in_code c.args.fact.now)) (sym (ap rules_of c.in-OfSums.is)) (some_site (fact_in_code c.args.fact.now) _ _ c.sites.ensures c.is_empty-in-OfSums.ensures))
