use Rattle.judge.proofs.CallLemmas.{covers_some}
use Rattle.judge.proofs.point.Point.covers.Goals as goal

pub returns : goal.returns
returns g c = covers_some (g.C.Claims.claims c.args.self.now.claims.now) c.args.self.now.place.routine c.in-Some.running c.args.entry _ _ _ _ _ c.in-Some.is c.requires.writes c.claimed-callee.ensures.writes
    c.contains.ensures c.if-contains.false c.contains-2.ensures c.if-not-contains.false c.is_subset.ensures
