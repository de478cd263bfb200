use Rattle.std.proofs.Common.{arith}
use Rattle.std.specs.Prelude.{IsTrue, ◌↔◌}
use Rattle.facts.specs.Conditions.{EntriesAreKept}
use Rattle.facts.specs.PlaceInCode.{meaning_in}
use Rattle.judge.specs.Points.{fact_asked}
use Rattle.judge.proofs.PointLemmas.{meant}
use Rattle.judge.proofs.point.Point.entries_are_kept.Goals as goal

pub entries_are_kept-requires : goal.entries_are_kept-requires
entries_are_kept-requires g c = omega (arith, c.requires.cells, c.requires.relations)

pub returns : goal.returns
returns g c = meant g.C.Claims.claims c.args.self.now (λ p. IsTrue c.entries_are_kept.result ↔ EntriesAreKept p (fact_asked c.args.self.now) (meaning_in p c.args.self.now.at c.args.word)) c.requires c.entries_are_kept.ensures
