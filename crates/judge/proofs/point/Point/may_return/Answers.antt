use Rattle.std.proofs.Common.{arith}
use Rattle.wordset.specs.Lanes.{words}
use Rattle.judge.specs.Points.{case_of, fact_asked}
use Rattle.judge.proofs.PointLemmas.{same_place}
use Rattle.judge.proofs.CallLemmas.{is_undeclared, returns_by, lands_among}
use Rattle.judge.proofs.point.Point.may_return.Goals as goal

pub copy_from-requires : goal.copy_from-requires
copy_from-requires g c = omega (arith, c.requires.point.roomy.cells, c.requires.point.roomy.relations, c.requires.point.cells, c.requires.point.relations)

pub returns-then-not-has_offset : goal.returns-then-not-has_offset
returns-then-not-has_offset g c = is_undeclared (case_of g.C.Claims.claims c.args.self.now) c.args.entry c.args.offset c.from_index.result (fact_asked c.args.self.now) _ c.from_index.ensures c.has_offset.ensures c.if-not-has_offset.true

pub returns : goal.returns
returns g c = returns_by (case_of g.C.Claims.claims c.args.self.now) c.args.entry c.args.offset c.from_index.result (fact_asked c.args.self.now) _ _ c.from_index.ensures c.has_offset.ensures c.if-not-has_offset.false
    (lands_among (case_of g.C.Claims.claims c.args.self.now) c.args.self.now.place.routine c.args.entry c.args.offset (fact_asked c.args.self.now) _ _ (words c.args.self.now.body.now.claim.sites) _ (same_place g.C.Claims.claims c.args.self.now c.requires.point) c.requires.own c.copy_from.ensures.fact c.requires.point.sites c.lands.ensures.lands)
