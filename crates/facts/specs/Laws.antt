-- What is to be proved of outcomes, entailment, landing and calls.
use Rattle.std.specs.Prelude.{◌≡◌, ℕ, true, false, ◌⊎◌, List, [], ◌∷◌}
use Rattle.wordset.specs.Words.{Words}
use Rattle.processor.specs.Cells.{Cells}
use Rattle.processor.specs.Machine.{State, Answer, instruction, Step}
use Rattle.declaration.specs.Declaration.{Declaration, IsDeclared}
use Rattle.policy.specs.Calls.{Calls}
use Rattle.policy.specs.Runs.{GoesOn}
use Rattle.domain.specs.Locations.{values, KeepsRest, has_cell}
use Rattle.domain.specs.Facts.{Fact, Place, Holds, Means, SomeMeans}
use Rattle.domain.specs.Moves.{joined}
use Rattle.domain.specs.Laws.{IsBegun}
use Rattle.facts.specs.States.{IsState, TopIsEntry, IsOrdinary}
use Rattle.facts.specs.Conditions.{WritesAreDeclared, EntriesAreKept}
use Rattle.transfer.specs.Outcomes.{Successor, Goes, CallsTo, Returns}
use Rattle.transfer.specs.Operations.{outcomes_of}
use Rattle.facts.specs.Entailment.{Entails, Lands, IsIdle}

-- A state is at one of an outcome's addresses, and its fact holds, of the same call stack.
abbrev pub LandsIn : Place → Cells → State → Calls → Successor → Type 0
LandsIn pl start t ks (Goes next f) = (next t.pc ≡ true) × Means pl start f t ks
LandsIn pl start t ks (CallsTo next f) = ⊥
LandsIn pl start t ks (Returns f) = ⊥

-- Some outcome of the list has the property.
abbrev pub SomeOutcome : (Successor → Type 0) → List Successor → Type 0
SomeOutcome p [] = ⊥
SomeOutcome p (o ∷ os) = p o ⊎ SomeOutcome p os

-- From a state of a fact, a step by the word at the program counter, whose writes are as asked, lands in an outcome; a JMS,
-- a return and a HLT that is not at a pause apart. By the rules of sums f is any fact that holds, and so the narrowed one too.
abbrev pub StepLaw : Type 0
StepLaw =
    (pl : Place) (start : Cells) (f : Fact) (s t : State) (q : Answer) (ks : Calls) →
    IsDeclared pl.declaration → IsBegun pl.image start → IsState s → TopIsEntry pl.declaration ks →
    Means pl start f s ks →
    WritesAreDeclared pl f (instruction pl.declaration.profile s) →
    EntriesAreKept pl f (instruction pl.declaration.profile s) →
    GoesOn pl.declaration (instruction pl.declaration.profile s) s.pc →
    IsOrdinary pl.declaration (instruction pl.declaration.profile s) →
    Step pl.declaration.profile s q t →
    SomeOutcome (LandsIn pl start t ks) (outcomes_of pl f s.pc (instruction pl.declaration.profile s))

-- A fact holds of each state of a fact that entails it.
abbrev pub EntailedFactsHold : Type 0
EntailedFactsHold =
    (pl : Place) (start : Cells) (f g : Fact) (s : State) (ks : Calls) →
    IsBegun pl.image start → IsState s → Entails pl f g → Means pl start f s ks → Means pl start g s ks

-- One of the facts among which a fact lands holds of each state of the fact.
abbrev pub OneLandedHolds : Type 0
OneLandedHolds =
    (pl : Place) (start : Cells) (f : Fact) (among : List Fact) (s : State) (ks : Calls) →
    IsBegun pl.image start → IsState s → Lands pl f among → Means pl start f s ks → SomeMeans pl start among s ks

-- A fact of which nothing need be asked never holds.
abbrev pub IdleNeverHolds : Type 0
IdleNeverHolds =
    (pl : Place) (start : Cells) (f : Fact) (s : State) (ks : Calls) →
    IsBegun pl.image start → IsState s → IsIdle pl.rules pl f → Means pl start f s ks → ⊥

-- Every variable outside the written set holds what it held. An entry may have been written: by the call itself, and by ISZ.
abbrev pub KeepsOutside : Declaration → Words → Cells → Cells → Type 0
KeepsOutside d written before after =
    (a : ℕ) → d.variable a ≡ true → has_cell written a ≡ false → after a ≡ before a

-- The running routine's return word is what it was.
abbrev pub KeepsReturns : Calls → Cells → Cells → Type 0
KeepsReturns [] before after = Unit {0}
KeepsReturns (k ∷ ks) before after = after k.entry ≡ before k.entry

-- After a call, what is joined holds: the call was made from a state of one fact, the exit holds where its routine returns, in the
-- calls that were open at the JMS, and what the callee does not write is as it was. The exit's own sites and offsets were those of
-- the call that has ended, so it is asked only what it says of registers, cells and sums.
abbrev pub JoinedHolds : Type 0
JoinedHolds =
    (pl : Place) (start : Cells) (call exit : Fact) (written : Words) (s t : State) (ks : Calls) →
    IsBegun pl.image start → IsState s → IsState t → Means pl start call s ks →
    Holds exit (values pl.declaration start t.ac t.memory) start t.link → exit.mq t.mq ≡ true → exit.link t.link ≡ true →
    KeepsRest pl.declaration start t.memory → KeepsOutside pl.declaration written s.memory t.memory → KeepsReturns ks s.memory t.memory →
    Means pl start (joined pl.rules call exit written) t ks
