use Rattle.std.proofs.Common.{ap}
use Rattle.peripherals.specs.Loading.{image_of}
use Rattle.domain.specs.FactInCode.{fact_in_code, rules_of}
use Rattle.judge.proofs.CaseLemmas.{asked_equations, asked_sums, narrowed_roomy}
use Rattle.judge.proofs.case.put_asked.Goals as goal

pub returns-in-OfEquations-clause-asked : goal.returns-in-OfEquations-clause-asked
returns-in-OfEquations-clause-asked c = asked_equations (rules_of c.args.rules.now) (image_of c.args.image.now) (fact_in_code c.args.claimed.now) _ (ap rules_of c.in-OfEquations.is) c.copy_from.ensures.fact

pub returns-in-OfSums-clause-asked : goal.returns-in-OfSums-clause-asked
returns-in-OfSums-clause-asked c = asked_sums (rules_of c.args.rules.now) (image_of c.args.image.now) (fact_in_code c.args.claimed.now) (fact_in_code c.narrow.new.self) c.is_void.result (ap rules_of c.in-OfSums.is) c.narrow.ensures.fact c.is_void.ensures

pub returns-in-OfSums-clause-roomy : goal.returns-in-OfSums-clause-roomy
returns-in-OfSums-clause-roomy c = narrowed_roomy {C = 132} {R = 68} {D = 64} {S = 32} (image_of c.args.image.now) c.narrow.new.self c.args.claimed.now c.requires c.is_within_room.ensures.cells c.is_within_room.ensures.relations c.narrow.ensures.fact c.narrow.ensures.cells c.narrow.ensures.relations
