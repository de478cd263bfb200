use Rattle.std.proofs.Common.{sym, subst}
use Rattle.std.specs.Prelude.{IsTrue, ◌↔◌}
use Rattle.facts.specs.declared.Condition.{Condition}
use Rattle.judge.specs.Points.{HoldsHere}
use Rattle.judge.proofs.point.Point.holds_for.Goals as goal

pub returns-in-V16 : goal.returns-in-V16
returns-in-V16 g c =
    subst (λ (v : Condition). IsTrue c.holds_as_declared.result ↔ HoldsHere g.C.Claims.claims c.args.self.now v c.args.word) (sym c.in-V16.is) (c.holds_as_declared.ensures c.args.word)
