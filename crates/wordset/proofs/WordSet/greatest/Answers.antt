use Rattle.std.proofs.Common.{◌-◌, arith, refl}
use Rattle.wordset.proofs.WordSet.greatest.Goals as goal
use Rattle.wordset.proofs.CarryLemmas.{IsGreatest-lane, none_past}
use Rattle.wordset.proofs.SetLemmas.{words_are}
use Rattle.wordset.specs.Words.{nothing}

pub loop-n-init : goal.loop-n-init
loop-n-init c = λ v h g. absurd (omega arith)

pub returns-then-lane-ne0 : goal.returns-then-lane-ne0
returns-then-lane-ne0 c =
    rw (← c.self.view_is, c.from_index.ensures)
    (IsGreatest-lane c.self.inside.lanes (63 - c.loop-n.n) c.self.invariant (omega arith) (λ v h g. c.loop-n.invariant v (omega arith) g) c.if-lane-ne0.true)

pub loop-n-preserved : goal.loop-n-preserved
loop-n-preserved c = λ v h g.
    none_past c.self.inside.lanes (63 - c.loop-n.n) (omega arith) (λ v h g. c.loop-n.invariant v (omega arith) g) c.if-lane-ne0.false v (omega arith) g

pub returns : goal.returns
returns c = rw (← c.self.view_is) (words_are c.self.inside.lanes nothing (λ v g. refl) (λ v h. c.loop-n.invariant v (omega arith) h))
