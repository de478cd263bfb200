use Rattle.std.proofs.Common.{◌≡◌, None}
use Rattle.wordset.specs.Lanes.{words}
use Rattle.wordset.proofs.IterLemmas.{Passed}
use Rattle.domain.specs.FactInCode.{fact_in_code}
use Rattle.judge.specs.Landing.{LandsAt}
use Rattle.judge.specs.Points.{case_of}
use Rattle.judge.proofs.point.Point.lands_in_main.Given as goal

abbrev pub invariant-loop-at : goal.invariant-loop-at
invariant-loop-at g l =
    Passed (λ a. LandsAt (case_of g.C.Claims.claims l.self) None a (fact_in_code l.fn.known)) (words l.addresses) l.at-iterator × (fact_in_code l.known ≡ fact_in_code l.fn.known)
