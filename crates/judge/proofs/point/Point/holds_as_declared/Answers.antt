use Rattle.std.specs.Prelude.{IsTrue, ◌↔◌}
use Rattle.facts.specs.Conditions.{EachIsHeld}
use Rattle.judge.specs.Points.{fact_asked}
use Rattle.judge.proofs.PointLemmas.{meant}
use Rattle.judge.proofs.point.Point.holds_as_declared.Goals as goal

pub returns : goal.returns
returns g c = λ word. meant g.C.Claims.claims c.args.self.now (λ p. IsTrue c.holds_as_declared.result ↔ EachIsHeld p (fact_asked c.args.self.now) c.args.self.now.at p.declaration.holds) c.requires c.holds_as_declared.ensures
