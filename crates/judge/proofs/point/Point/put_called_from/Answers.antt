use Rattle.std.proofs.Common.{arith}
use Rattle.judge.proofs.CallLemmas.{is_called_from}
use Rattle.judge.specs.Points.{fact_asked}
use Rattle.judge.proofs.point.Point.put_called_from.Goals as goal

pub copy_from-requires : goal.copy_from-requires
copy_from-requires g c = omega (arith, c.requires.roomy.cells, c.requires.roomy.relations, c.requires.cells, c.requires.relations)

pub returns : goal.returns
returns g c = is_called_from c.args.self.now.at (fact_asked c.args.self.now) _ _ _ _ _ _ c.copy_from.ensures.fact c.one.ensures c.set_sites.ensures.fact c.none-offsets.ensures c.insert.ensures c.set_offsets.ensures.fact
