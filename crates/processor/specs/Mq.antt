-- What the instructions of the PDP-8/I make of MQ: nothing.
use Rattle.std.specs.Prelude.{ℕ, ◌≡◌}
use Rattle.instruct.specs.declared.Profile.TheVariants.{Pdp8I}
use Rattle.processor.specs.Machine.{State, Answer, Step}

-- A state with another MQ.
abbrev pub with_mq : ℕ → State → State
with_mq mq s = record s { mq = mq }

-- A step leaves MQ, and whatever MQ was, the same step by the same answer leads to the same state with that MQ.
abbrev pub LeavesMq : Type 0
LeavesMq =
    (s t : State) (q : Answer) → Step Pdp8I s q t →
    (t.mq ≡ s.mq) × ((mq : ℕ) → Step Pdp8I (with_mq mq s) q (with_mq mq t))
