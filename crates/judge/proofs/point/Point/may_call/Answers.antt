use Rattle.instruct.specs.Instructions.{meaning_of}
use Rattle.judge.specs.Points.{case_of}
use Rattle.judge.proofs.CallLemmas.{steps_pointer_first, and_pointer}
use Rattle.judge.proofs.point.Point.may_call.Goals as goal

pub returns-then-steps_call_pointer : goal.returns-then-steps_call_pointer
returns-then-steps_call_pointer g c = steps_pointer_first (meaning_of (case_of g.C.Claims.claims c.args.self.now).declaration.profile c.args.self.now.at c.args.word) _ c.steps_call_pointer.ensures c.if-steps_call_pointer.true

pub returns : goal.returns
returns g c = and_pointer (meaning_of (case_of g.C.Claims.claims c.args.self.now).declaration.profile c.args.self.now.at c.args.word) _ _ c.steps_call_pointer.ensures c.if-steps_call_pointer.false c.callees_pass.ensures
