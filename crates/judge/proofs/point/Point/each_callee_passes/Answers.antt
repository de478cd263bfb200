use Rattle.std.proofs.Common.{◌≡◌, refl, arith}
use Rattle.wordset.specs.Lanes.{words}
use Rattle.wordset.proofs.IterLemmas.{of_set, one_fails, all_pass}
use Rattle.instruct.specs.Instructions.{meaning_of}
use Rattle.facts.specs.Conditions.{called}
use Rattle.facts.specs.PlaceInCode.{meaning_in}
use Rattle.judge.specs.Callees.{HoldsOfCallee}
use Rattle.judge.specs.Points.{case_of, fact_asked}
use Rattle.judge.proofs.PointLemmas.{meant}
use Rattle.judge.proofs.CallLemmas.{each_target}
use Rattle.judge.proofs.point.Point.each_callee_passes.Goals as goal

pub put_called-requires : goal.put_called-requires
put_called-requires g c = omega (arith, c.requires.cells, c.requires.relations)

pub returns-then-not-callee_passes : goal.returns-then-not-callee_passes
returns-then-not-callee_passes g c =
    let p = HoldsOfCallee (case_of g.C.Claims.claims c.args.self.now) c.args.condition c.args.self.now.place.routine c.args.self.now.at (fact_asked c.args.self.now) in
    let m = meaning_of (case_of g.C.Claims.claims c.args.self.now).declaration.profile c.args.self.now.at c.args.word in
    each_target (case_of g.C.Claims.claims c.args.self.now) c.args.self.now.place.routine (fact_asked c.args.self.now) m p (words c.put_called.new.place) _ (meant g.C.Claims.claims c.args.self.now (λ pl. words c.put_called.new.place ≡ called pl (fact_asked c.args.self.now) (meaning_in pl c.args.self.now.at c.args.word)) c.requires c.put_called.ensures)
    (one_fails {p = p} _ (of_set {p = p} c.iter-entry-items.ensures c.into_iter-entry-iterator.ensures.into_iter_gives c.loop-entry.invariant) c.in-Some.ensures.steps c.if-not-callee_passes.true c.callee_passes.ensures.1)

pub returns : goal.returns
returns g c =
    let p = HoldsOfCallee (case_of g.C.Claims.claims c.args.self.now) c.args.condition c.args.self.now.place.routine c.args.self.now.at (fact_asked c.args.self.now) in
    let m = meaning_of (case_of g.C.Claims.claims c.args.self.now).declaration.profile c.args.self.now.at c.args.word in
    each_target (case_of g.C.Claims.claims c.args.self.now) c.args.self.now.place.routine (fact_asked c.args.self.now) m p (words c.put_called.new.place) _ (meant g.C.Claims.claims c.args.self.now (λ pl. words c.put_called.new.place ≡ called pl (fact_asked c.args.self.now) (meaning_in pl c.args.self.now.at c.args.word)) c.requires c.put_called.ensures)
    (λ q. all_pass {p = p} (of_set {p = p} c.iter-entry-items.ensures c.into_iter-entry-iterator.ensures.into_iter_gives c.loop-entry.invariant) c.in-None.ensures.steps, λ each. refl)
