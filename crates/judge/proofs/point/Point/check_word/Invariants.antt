use Rattle.std.specs.Prelude.{◌≤◌}
use Rattle.judge.specs.Points.{HoldsOfPoint}
use Rattle.judge.proofs.AskedLemmas.{PassedBefore}
use Rattle.judge.proofs.point.Point.check_word.Given as goal

abbrev pub invariant-loop-place : goal.invariant-loop-place
invariant-loop-place g l =
    (2 ≤ l.place) × PassedBefore (HoldsOfPoint g.C.Claims.claims l.self) l.place
