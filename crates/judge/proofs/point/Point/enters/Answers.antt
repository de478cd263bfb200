use Rattle.std.proofs.Common.{refl}
use Rattle.judge.specs.Points.{case_of}
use Rattle.judge.proofs.CallLemmas.{lands_equally}
use Rattle.judge.proofs.point.Point.enters.Goals as goal

pub returns : goal.returns
returns g c = lands_equally (case_of g.C.Claims.claims c.args.self.now) _ refl c.increment.ensures c.put_called_from.ensures c.lands.ensures.lands
