use Rattle.instruct.specs.Instructions.{meaning_of}
use Rattle.std.proofs.Common.{sym, ◌∙◌}
use Rattle.judge.specs.Points.{case_of, fact_asked}
use Rattle.judge.proofs.CallLemmas.{returns_none, returns_some}
use Rattle.judge.proofs.point.Point.returns_well.Goals as goal

pub returns-in-None : goal.returns-in-None
returns-in-None g c = returns_none (case_of g.C.Claims.claims c.args.self.now) c.args.self.now.place.routine (fact_asked c.args.self.now) (meaning_of (case_of g.C.Claims.claims c.args.self.now).declaration.profile c.args.self.now.at c.args.word) (sym c.in-None.is ∙ c.returned_entry.ensures)

pub returns-in-Some : goal.returns-in-Some
returns-in-Some g c = returns_some (case_of g.C.Claims.claims c.args.self.now) c.args.self.now.place.routine (fact_asked c.args.self.now) c.in-Some.entry (meaning_of (case_of g.C.Claims.claims c.args.self.now).declaration.profile c.args.self.now.at c.args.word) _ (sym c.in-Some.is ∙ c.returned_entry.ensures) c.returns_through.ensures
