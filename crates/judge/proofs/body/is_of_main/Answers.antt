use Rattle.domain.specs.FactInCode.{fact_in_code}
use Rattle.judge.proofs.LineLemmas.{of_main, site_in_main}
use Rattle.judge.proofs.body.is_of_main.Goals as goal

pub returns-then-not-is_empty : goal.returns-then-not-is_empty
returns-then-not-is_empty c = site_in_main (fact_in_code c.args.fact.now) _ _ c.sites.ensures c.is_empty.ensures c.if-not-is_empty.true

pub returns : goal.returns
returns c = of_main (fact_in_code c.args.fact.now) _ _ _ _ c.sites.ensures c.offsets.ensures c.is_empty.ensures c.if-not-is_empty.false c.is_empty-2.ensures
