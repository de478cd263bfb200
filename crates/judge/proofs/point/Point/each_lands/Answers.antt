use Rattle.judge.specs.Jumps.{SuccessorLandsHere}
use Rattle.transfer.specs.OutcomesInCode.{outcome_in}
use Rattle.transfer.proofs.EntailLemmas.{not_both}
use Rattle.judge.specs.Points.{case_of}
use Rattle.judge.proofs.PointLemmas.{four_land, first_fails, second_fails, third_fails}
use Rattle.judge.proofs.point.Point.each_lands.Goals as goal

pub returns-then-not-outcome_lands : goal.returns-then-not-outcome_lands
returns-then-not-outcome_lands g c = first_fails (SuccessorLandsHere (case_of g.C.Claims.claims c.args.self.now) c.args.self.now.place.routine) (outcome_in c.args.outcomes.now.first) (outcome_in c.args.outcomes.now.second) (outcome_in c.args.outcomes.now.third) (outcome_in c.args.outcomes.now.fourth) (not_both _ c.if-not-outcome_lands.true c.outcome_lands.ensures.1)

pub returns-then-not-outcome_lands-2 : goal.returns-then-not-outcome_lands-2
returns-then-not-outcome_lands-2 g c = second_fails (SuccessorLandsHere (case_of g.C.Claims.claims c.args.self.now) c.args.self.now.place.routine) (outcome_in c.args.outcomes.now.first) (outcome_in c.args.outcomes.now.second) (outcome_in c.args.outcomes.now.third) (outcome_in c.args.outcomes.now.fourth) (not_both _ c.if-not-outcome_lands-2.true c.outcome_lands-2.ensures.1)

pub returns-then-not-outcome_lands-3 : goal.returns-then-not-outcome_lands-3
returns-then-not-outcome_lands-3 g c = third_fails (SuccessorLandsHere (case_of g.C.Claims.claims c.args.self.now) c.args.self.now.place.routine) (outcome_in c.args.outcomes.now.first) (outcome_in c.args.outcomes.now.second) (outcome_in c.args.outcomes.now.third) (outcome_in c.args.outcomes.now.fourth) (not_both _ c.if-not-outcome_lands-3.true c.outcome_lands-3.ensures.1)

pub returns : goal.returns
returns g c = four_land (SuccessorLandsHere (case_of g.C.Claims.claims c.args.self.now) c.args.self.now.place.routine) (outcome_in c.args.outcomes.now.first) (outcome_in c.args.outcomes.now.second) (outcome_in c.args.outcomes.now.third) (outcome_in c.args.outcomes.now.fourth) _ (c.outcome_lands.ensures.0 c.if-not-outcome_lands.false) (c.outcome_lands-2.ensures.0 c.if-not-outcome_lands-2.false)
    (c.outcome_lands-3.ensures.0 c.if-not-outcome_lands-3.false) c.outcome_lands-4.ensures
