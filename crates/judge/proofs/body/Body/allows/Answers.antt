use Rattle.domain.specs.FactInCode.{fact_in_code, rules_of}
use Rattle.judge.proofs.LineLemmas.{allows_none, allows_some}
use Rattle.judge.proofs.body.Body.allows.Goals as goal

pub returns-in-None : goal.returns-in-None
returns-in-None c = allows_none (rules_of c.args.rules.now) c.args.self.now.routine (fact_in_code c.args.fact.now) _ c.in-None.is c.is_of_main.ensures

pub returns-in-Some : goal.returns-in-Some
returns-in-Some c = allows_some (rules_of c.args.rules.now) c.args.self.now.routine _ (fact_in_code c.args.fact.now) _ c.in-Some.is c.is_of_routine.ensures
