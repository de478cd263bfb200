use Rattle.std.proofs.Common.{ℕ, ◌≡◌, ◌<◌, true, subst}
use Rattle.std.specs.Prelude.{IsTrue, ◌↔◌}
use Rattle.wordset.specs.Words.{Words}
use Rattle.domain.specs.FactInCode.{fact_in_code}
use Rattle.judge.specs.Landing.{LandsAt}
use Rattle.judge.specs.Points.{case_of}
use Rattle.judge.proofs.point.Point.lands_at_several.Goals as goal

pub returns : goal.returns
returns g c = subst (λ (s : Words). IsTrue c.lands_at_each.result ↔ ((a : ℕ) → a < 4096 → s a ≡ true → LandsAt (case_of g.C.Claims.claims c.args.self.now) c.args.self.now.place.routine a (fact_in_code c.args.known.now))) c.put.ensures c.lands_at_each.ensures.lands
