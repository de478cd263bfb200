use Rattle.std.proofs.Common.{arith, refl, ◌∙◌}
use Rattle.judge.specs.Points.{case_of}
use Rattle.domain.specs.FactInCode.{fact_in_code}
use Rattle.judge.proofs.CallLemmas.{lands_if, lands_without, lands_equally, return_place, joined_by}
use Rattle.judge.proofs.point.Point.lands_with.Goals as goal

pub take_joined-requires : goal.take_joined-requires
take_joined-requires g c = omega (arith, c.requires.point.roomy.cells, c.is_within_room.ensures.cells, c.requires.point.roomy.relations, c.is_within_room.ensures.relations, c.requires.point.cells, c.requires.point.relations)

pub returns-then-not-contains : goal.returns-then-not-contains
returns-then-not-contains g c = lands_without _ (fact_in_code c.args.others.now.exit) c.args.self.now.at _ c.contains.ensures (c.put.ensures ∙ c.sites.ensures) c.if-not-contains.true

pub returns : goal.returns
returns g c = lands_if _ (fact_in_code c.args.others.now.exit) c.args.self.now.at _ _ c.contains.ensures (c.put.ensures ∙ c.sites.ensures) c.if-not-contains.false
    (lands_equally (case_of g.C.Claims.claims c.args.self.now) _ refl (return_place c.args.self.now.at c.args.offset c.increment.result c.from_index.result c.add-at.result c.increment.ensures c.from_index.ensures c.add-at.ensures)
    (joined_by _ _ _ _ _ _ c.requires.point.rules c.take_joined.ensures) c.lands_here.ensures.lands)
