use Rattle.std.proofs.Common.{subst, arith}
use Rattle.std.specs.Prelude.{IsTrue, ◌↔◌}
use Rattle.wordset.specs.Words.{Words}
use Rattle.certificate_lines.specs.Certificate.{writes_of}
use Rattle.facts.specs.Conditions.{WritesAreListed}
use Rattle.facts.specs.PlaceInCode.{place_in_code, meaning_in}
use Rattle.judge.specs.Points.{fact_asked}
use Rattle.judge.proofs.PointLemmas.{meant}
use Rattle.judge.proofs.point.Point.writes_are_listed.Goals as goal

pub writes_are_listed-requires : goal.writes_are_listed-requires
writes_are_listed-requires g c = omega (arith, c.requires.cells, c.requires.relations)

pub returns : goal.returns
returns g c =
    let Q : Words → Type 0 = λ ws. IsTrue c.writes_are_listed.result ↔ WritesAreListed (place_in_code c.args.self.now.place) ws (fact_asked c.args.self.now) (meaning_in (place_in_code c.args.self.now.place) c.args.self.now.at c.args.word) in
    meant g.C.Claims.claims c.args.self.now (λ p. IsTrue c.writes_are_listed.result ↔ WritesAreListed p (writes_of (g.C.Claims.claims c.args.self.now.claims.now) c.args.self.now.place.routine) (fact_asked c.args.self.now) (meaning_in p c.args.self.now.at c.args.word)) c.requires
    (subst Q c.requires.writes c.writes_are_listed.ensures)
