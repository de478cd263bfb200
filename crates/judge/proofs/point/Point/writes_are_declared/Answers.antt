use Rattle.std.proofs.Common.{arith}
use Rattle.std.specs.Prelude.{IsTrue, ◌↔◌}
use Rattle.facts.specs.Conditions.{WritesAreDeclared}
use Rattle.facts.specs.PlaceInCode.{meaning_in}
use Rattle.judge.specs.Points.{fact_asked}
use Rattle.judge.proofs.PointLemmas.{meant}
use Rattle.judge.proofs.point.Point.writes_are_declared.Goals as goal

pub writes_are_declared-requires : goal.writes_are_declared-requires
writes_are_declared-requires g c = omega (arith, c.requires.cells, c.requires.relations)

pub returns : goal.returns
returns g c = meant g.C.Claims.claims c.args.self.now (λ p. IsTrue c.writes_are_declared.result ↔ WritesAreDeclared p (fact_asked c.args.self.now) (meaning_in p c.args.self.now.at c.args.word)) c.requires c.writes_are_declared.ensures
