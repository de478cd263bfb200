use Rattle.std.proofs.Common.{sym, ◌∙◌}
use Rattle.instruct.specs.Instructions.{meaning_of}
use Rattle.judge.specs.Callees.{HoldsOfCallee}
use Rattle.judge.specs.Points.{case_of, fact_asked}
use Rattle.judge.proofs.CallLemmas.{no_target}
use Rattle.judge.proofs.point.Point.callees_pass.Goals as goal

pub returns-then-not-is_call : goal.returns-then-not-is_call
returns-then-not-is_call g c =
    no_target (case_of g.C.Claims.claims c.args.self.now) c.args.self.now.place.routine (fact_asked c.args.self.now) (meaning_of (case_of g.C.Claims.claims c.args.self.now).declaration.profile c.args.self.now.at c.args.word) (HoldsOfCallee (case_of g.C.Claims.claims c.args.self.now) c.args.condition c.args.self.now.place.routine c.args.self.now.at (fact_asked c.args.self.now))
    (sym (c.is_call.ensures c.args.self.now.at) ∙ c.if-not-is_call.true)
