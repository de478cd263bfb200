use Rattle.std.specs.Prelude.{IsTrue, ◌↔◌, List}
use Rattle.transfer.specs.Outcomes.{Successor}
use Rattle.transfer.specs.Operations.{outcomes_of}
use Rattle.facts.specs.PlaceInCode.{place_in_code, meaning_in}
use Rattle.judge.specs.Landing.{EachSuccessor, SuccessorLands}
use Rattle.std.proofs.Common.{sym, ◌∙◌, subst, arith}
use Rattle.instruct.specs.Instructions.{meaning_of}
use Rattle.judge.specs.Points.{case_of, fact_asked}
use Rattle.judge.specs.Jumps.{AbandonsIf}
use Rattle.judge.proofs.PointLemmas.{meant, calls_land, told_of, each_same, stays_lands, jumps_land}
use Rattle.judge.proofs.point.Point.outcomes_land.Goals as goal

pub put_outcomes-requires : goal.put_outcomes-requires
put_outcomes-requires g c =
    (omega (arith, c.requires.cells, c.requires.relations), (c.requires.roomy.cells, (c.requires.roomy.relations, (c.requires.roomy.chains, (c.requires.roomy.terms, c.requires.roomy.short)))))

pub returns-then-is_call : goal.returns-then-is_call
returns-then-is_call g c =
    calls_land (case_of g.C.Claims.claims c.args.self.now) c.args.self.now.place.routine (fact_asked c.args.self.now) c.args.self.now.at (meaning_of (case_of g.C.Claims.claims c.args.self.now).declaration.profile c.args.self.now.at c.args.word)
    (sym (c.is_call.ensures c.args.self.now.at) ∙ c.if-is_call.true)

pub returns-then-may_abandon : goal.returns-then-may_abandon
returns-then-may_abandon g c =
    meant g.C.Claims.claims c.args.self.now (λ p. IsTrue c.each_jumps.result ↔ EachSuccessor (SuccessorLands (case_of g.C.Claims.claims c.args.self.now) c.args.self.now.place.routine (meaning_in p c.args.self.now.at c.args.word)) (outcomes_of p (fact_asked c.args.self.now) c.args.self.now.at (meaning_in p c.args.self.now.at c.args.word))) c.requires
    (subst (λ (os : List Successor). IsTrue c.each_jumps.result ↔ EachSuccessor (SuccessorLands (case_of g.C.Claims.claims c.args.self.now) c.args.self.now.place.routine (meaning_in (place_in_code c.args.self.now.place) c.args.self.now.at c.args.word)) os) c.put_outcomes.ensures
    (told_of c.each_jumps.result c.each_jumps.ensures (each_same _ _ _ (jumps_land (case_of g.C.Claims.claims c.args.self.now) c.args.self.now.place.routine _ (subst (λ b. AbandonsIf b (case_of g.C.Claims.claims c.args.self.now) c.args.self.now.place.routine (meaning_in (place_in_code c.args.self.now.place) c.args.self.now.at c.args.word)) c.if-may_abandon.true c.may_abandon.ensures)))))

pub returns : goal.returns
returns g c =
    meant g.C.Claims.claims c.args.self.now (λ p. IsTrue c.each_lands.result ↔ EachSuccessor (SuccessorLands (case_of g.C.Claims.claims c.args.self.now) c.args.self.now.place.routine (meaning_in p c.args.self.now.at c.args.word)) (outcomes_of p (fact_asked c.args.self.now) c.args.self.now.at (meaning_in p c.args.self.now.at c.args.word))) c.requires
    (subst (λ (os : List Successor). IsTrue c.each_lands.result ↔ EachSuccessor (SuccessorLands (case_of g.C.Claims.claims c.args.self.now) c.args.self.now.place.routine (meaning_in (place_in_code c.args.self.now.place) c.args.self.now.at c.args.word)) os) c.put_outcomes.ensures
    (told_of c.each_lands.result c.each_lands.ensures (each_same _ _ _ (stays_lands (case_of g.C.Claims.claims c.args.self.now) c.args.self.now.place.routine _ (subst (λ b. AbandonsIf b (case_of g.C.Claims.claims c.args.self.now) c.args.self.now.place.routine (meaning_in (place_in_code c.args.self.now.place) c.args.self.now.at c.args.word)) c.if-may_abandon.false c.may_abandon.ensures)))))
