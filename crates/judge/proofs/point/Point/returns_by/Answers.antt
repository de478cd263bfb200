use Rattle.std.proofs.Common.{ap, ◌∙◌, arith}
use Rattle.wordset.specs.Words.{Words}
use Rattle.judge.specs.Points.{case_of, fact_asked}
use Rattle.judge.proofs.CallLemmas.{returns_lacking, returns_having}
use Rattle.judge.proofs.point.Point.returns_by.Goals as goal

pub offsets-requires : goal.offsets-requires
offsets-requires g c = omega (arith, c.requires.point.cells, c.requires.point.relations)

pub returns-then-not-contains : goal.returns-then-not-contains
returns-then-not-contains g c = returns_lacking (case_of g.C.Claims.claims c.args.self.now) c.args.entry c.args.offset (fact_asked c.args.self.now) _ (c.contains.ensures ∙ ap (λ (s : Words). s c.args.offset) c.offsets.ensures) c.if-not-contains.true

pub returns : goal.returns
returns g c = returns_having (case_of g.C.Claims.claims c.args.self.now) c.args.entry c.args.offset (fact_asked c.args.self.now) _ _ (c.contains.ensures ∙ ap (λ (s : Words). s c.args.offset) c.offsets.ensures) c.if-not-contains.false c.may_return.ensures
