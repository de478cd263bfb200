use Rattle.std.proofs.Common.{arith}
use Rattle.std.specs.Prelude.{IsTrue, ◌↔◌}
use Rattle.facts.specs.Conditions.{ReadsAreListed}
use Rattle.facts.specs.PlaceInCode.{meaning_in}
use Rattle.judge.specs.Points.{fact_asked}
use Rattle.judge.proofs.PointLemmas.{meant}
use Rattle.judge.proofs.point.Point.reads_are_listed.Goals as goal

pub reads_are_listed-requires : goal.reads_are_listed-requires
reads_are_listed-requires g c = omega (arith, c.requires.cells, c.requires.relations)

pub returns : goal.returns
returns g c = meant g.C.Claims.claims c.args.self.now (λ p. IsTrue c.reads_are_listed.result ↔ ReadsAreListed p (fact_asked c.args.self.now) (meaning_in p c.args.self.now.at c.args.word)) c.requires c.reads_are_listed.ensures
