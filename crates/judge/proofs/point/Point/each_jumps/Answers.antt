use Rattle.judge.specs.Jumps.{SuccessorLandsBeyond}
use Rattle.transfer.specs.OutcomesInCode.{outcome_in}
use Rattle.transfer.proofs.EntailLemmas.{not_both}
use Rattle.judge.specs.Points.{case_of}
use Rattle.judge.proofs.PointLemmas.{four_land, first_fails, second_fails, third_fails}
use Rattle.judge.proofs.point.Point.each_jumps.Goals as goal

pub returns-then-not-jump_lands : goal.returns-then-not-jump_lands
returns-then-not-jump_lands g c = first_fails (SuccessorLandsBeyond (case_of g.C.Claims.claims c.args.self.now) c.args.self.now.place.routine) (outcome_in c.args.outcomes.now.first) (outcome_in c.args.outcomes.now.second) (outcome_in c.args.outcomes.now.third) (outcome_in c.args.outcomes.now.fourth) (not_both _ c.if-not-jump_lands.true c.jump_lands.ensures.1)

pub returns-then-not-jump_lands-2 : goal.returns-then-not-jump_lands-2
returns-then-not-jump_lands-2 g c = second_fails (SuccessorLandsBeyond (case_of g.C.Claims.claims c.args.self.now) c.args.self.now.place.routine) (outcome_in c.args.outcomes.now.first) (outcome_in c.args.outcomes.now.second) (outcome_in c.args.outcomes.now.third) (outcome_in c.args.outcomes.now.fourth) (not_both _ c.if-not-jump_lands-2.true c.jump_lands-2.ensures.1)

pub returns-then-not-jump_lands-3 : goal.returns-then-not-jump_lands-3
returns-then-not-jump_lands-3 g c = third_fails (SuccessorLandsBeyond (case_of g.C.Claims.claims c.args.self.now) c.args.self.now.place.routine) (outcome_in c.args.outcomes.now.first) (outcome_in c.args.outcomes.now.second) (outcome_in c.args.outcomes.now.third) (outcome_in c.args.outcomes.now.fourth) (not_both _ c.if-not-jump_lands-3.true c.jump_lands-3.ensures.1)

pub returns : goal.returns
returns g c = four_land (SuccessorLandsBeyond (case_of g.C.Claims.claims c.args.self.now) c.args.self.now.place.routine) (outcome_in c.args.outcomes.now.first) (outcome_in c.args.outcomes.now.second) (outcome_in c.args.outcomes.now.third) (outcome_in c.args.outcomes.now.fourth) _ (c.jump_lands.ensures.0 c.if-not-jump_lands.false) (c.jump_lands-2.ensures.0 c.if-not-jump_lands-2.false)
    (c.jump_lands-3.ensures.0 c.if-not-jump_lands-3.false) c.jump_lands-4.ensures
