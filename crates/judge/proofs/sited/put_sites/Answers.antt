use Rattle.std.proofs.Common.{ap}
use Rattle.wordset.specs.Lanes.{words}
use Rattle.domain.specs.FactInCode.{fact_in_code, rules_of}
use Rattle.judge.proofs.SourceLemmas.{sited_by_equations}
use Rattle.judge.proofs.sited.put_sites.Goals as goal

pub returns-in-OfEquations : goal.returns-in-OfEquations
returns-in-OfEquations c = sited_by_equations (rules_of c.args.rules.now) (words c.args.sites.now) (fact_in_code c.args.fact.now) _ (ap rules_of c.in-OfEquations.is) c.set_sites.ensures.fact
