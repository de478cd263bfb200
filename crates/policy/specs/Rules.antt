-- The eight rules that a declaration imposes on each step, and the steps that comply with all of
-- them.
use Rattle.std.specs.Prelude.{◌≡◌, ℕ, ◌<◌, ◌==◌, true, false, ◌&&◌, ◌||◌, ◌⊎◌, Some, None, List, [], ◌∷◌}
use Rattle.instruct.specs.Operates.{is_halt}
use Rattle.instruct.specs.Instructions.{Meaning, And, Tad, Isz, Dca, Jms, Jmp, Group2, Undefined}
use Rattle.wordset.specs.Words.{Words, minus}
use Rattle.processor.specs.Cells.{Cells}
use Rattle.processor.specs.Machine.{State, after, steps_pointer, place, instruction}
use Rattle.processor.specs.Runs.{Image}
use Rattle.declaration.specs.Declaration.{Routine, Declaration, Assertion, PlaceAssertion, ReturnAssertion, IsListed}
use Rattle.declaration.specs.declared.Subject.{Subject}
use Rattle.declaration.specs.declared.Subject.TheVariants.{Accumulator, Link, Mq, Cell}
use Rattle.policy.specs.Calls.{Calls, current}

-- The declared machine implements the word.
abbrev pub IsSupported : Meaning → Type 0
IsSupported Undefined = ⊥
IsSupported _ = Unit {0}

-- The auto-index cell that an instruction increments before it uses it.
abbrev pub pointer_of : Meaning → Words
pointer_of (And i c) a = steps_pointer i c && (a == c)
pointer_of (Tad i c) a = steps_pointer i c && (a == c)
pointer_of (Isz i c) a = steps_pointer i c && (a == c)
pointer_of (Dca i c) a = steps_pointer i c && (a == c)
pointer_of (Jms i c) a = steps_pointer i c && (a == c)
pointer_of (Jmp i c) a = steps_pointer i c && (a == c)
pointer_of _ a = false

-- The cell in which ISZ or DCA stores.
abbrev pub stored_at : Meaning → Cells → Words
stored_at (Isz i c) memory a = a == place i c memory
stored_at (Dca i c) memory a = a == place i c memory
stored_at _ memory a = false

-- All cells that an instruction writes, except the cell in which a JMS stores the return address.
abbrev pub written_by : Meaning → Cells → Words
written_by m memory a = pointer_of m a || stored_at m memory a

-- The cells that an instruction reads: the pointer of an indirect reference, and the operand of AND, TAD and ISZ. The
-- instruction word itself does not count.
abbrev pub read_by : Meaning → Cells → Words
read_by (And i c) memory a = (i && (a == c)) || (a == place i c memory)
read_by (Tad i c) memory a = (i && (a == c)) || (a == place i c memory)
read_by (Isz i c) memory a = (i && (a == c)) || (a == place i c memory)
read_by (Dca i c) memory a = i && (a == c)
read_by (Jms i c) memory a = i && (a == c)
read_by (Jmp i c) memory a = i && (a == c)
read_by _ memory a = false

-- Rule 1: the program counter is in the running routine's body, at a word that is supported.
pub record StaysInBody (d : Declaration) (s : State) (ks : Calls) : Type 0 where
  pub in_body : d.body (current ks) s.pc ≡ true
  pub supported : IsSupported (instruction d.profile s)

-- An ISZ may increment the running routine's own entry. A DCA that names the entry itself may store in it if a `moves` line names
-- the entry; a DCA through a pointer may not.
abbrev pub WritesOwnEntry : Declaration → Meaning → Calls → ℕ → Type 0
WritesOwnEntry d (Isz i c) ks a = current ks ≡ Some a
WritesOwnEntry d (Dca i c) ks a = (i ≡ false) × (d.moves a ≡ true) × (current ks ≡ Some a)
WritesOwnEntry d _ ks a = ⊥

-- Rule 2: each cell that is written is a variable or the running routine's own entry. The entry may be written by an ISZ, or
-- by a DCA that names it directly if the declaration lets the routine store there.
abbrev pub WritesDeclared : Declaration → Meaning → State → Calls → Type 0
WritesDeclared d m s ks =
    (a : ℕ) → written_by m s.memory a ≡ true → (d.variable a ≡ true) ⊎ WritesOwnEntry d m ks a

-- Rule 3: a JMS goes to an entry.
abbrev pub CallsEntries : Declaration → Meaning → State → Type 0
CallsEntries d (Jms i c) s = d.entry (place i c s.memory) ≡ true
CallsEntries d _ s = Unit {0}

-- The last call is a call of e, and the word in e is the return address of that call plus an offset that is
-- declared for e.
abbrev pub FindsItsCall : Declaration → ℕ → State → Calls → Type 0
FindsItsCall d e s [] = ⊥
FindsItsCall d e s (k ∷ ks) =
    (k.entry ≡ e) × (o : ℕ) × (o < 64) × (d.offset e o ≡ true) × (s.memory e ≡ after k.after o)

-- Rule 4: a JMP I through an entry returns from the last call, which is a call of this entry, to a
-- declared offset after its return address.
abbrev pub ReturnsToItsCall : Declaration → Meaning → State → Calls → Type 0
ReturnsToItsCall d (Jmp i c) s ks = i ≡ true → d.entry c ≡ true → FindsItsCall d c s ks
ReturnsToItsCall d _ s ks = Unit {0}

-- Rule 5: a HLT is at a declared halt.
abbrev pub HaltsDeclared : Declaration → Meaning → ℕ → Type 0
HaltsDeclared d (Group2 w) pc = is_halt w ≡ true → (d.stop pc || d.pause pc) ≡ true
HaltsDeclared d _ pc = Unit {0}

-- Rule 6: each cell of a body that is on the tape and is not a variable holds the word of the tape.
abbrev pub KeepsCode : Image → Declaration → Cells → Type 0
KeepsCode image d memory =
    (r : Routine) (a w : ℕ) → d.body r a ≡ true → d.variable a ≡ false → image a ≡ Some w → memory a ≡ w

-- Rule 7: each cell that is read is on the list of reads, if there is one, or is the running routine's own entry.
abbrev pub ReadsListed : Declaration → Meaning → State → Calls → Type 0
ReadsListed d m s ks =
    (a : ℕ) → read_by m s.memory a ≡ true → IsListed d.reads a ⊎ (current ks ≡ Some a)

-- The word that an assertion is about.
abbrev pub word_of : Subject → State → ℕ
word_of Accumulator s = s.ac
word_of Link s = s.link
word_of Mq s = s.mq
word_of (Cell a) s = s.memory a

-- The assertion is true.
abbrev pub IsSo : Assertion → State → Type 0
IsSo a s = a.words (word_of a.subject s) ≡ true

-- The assertions about the program counter are true.
abbrev pub EachHolds : List PlaceAssertion → State → Type 0
EachHolds [] s = Unit {0}
EachHolds (h ∷ hs) s = (h.places s.pc ≡ true → IsSo h.assertion s) × EachHolds hs s

-- The assertions about a return of this routine by this offset are true.
abbrev pub EachHoldsBy : List ReturnAssertion → ℕ → ℕ → State → Type 0
EachHoldsBy [] e o s = Unit {0}
EachHoldsBy (r ∷ rs) e o s = (r.entry ≡ e → r.offsets o ≡ true → IsSo r.assertion s) × EachHoldsBy rs e o s

-- The assertions about a return through this entry are true if the last call is a call of this entry. The offset of the
-- return is the distance from the return address of this call to the word in the entry.
abbrev pub HoldsAtReturn : Declaration → ℕ → State → Calls → Type 0
HoldsAtReturn d e s [] = Unit {0}
HoldsAtReturn d e s (k ∷ ks) = k.entry ≡ e → EachHoldsBy d.returns e (minus (s.memory e) k.after) s

-- If the instruction is a return, the assertions about this return are true.
abbrev pub ReturnsHold : Declaration → Meaning → State → Calls → Type 0
ReturnsHold d (Jmp i c) s ks = i ≡ true → d.entry c ≡ true → HoldsAtReturn d c s ks
ReturnsHold d _ s ks = Unit {0}

-- Rule 8: the assertions about the program counter are true before the step and, if the step is a return, so are the
-- assertions about this return.
pub record AssertionsHold (d : Declaration) (m : Meaning) (s : State) (ks : Calls) : Type 0 where
  pub places : EachHolds d.holds s
  pub returns : ReturnsHold d m s ks

-- A step complies with all rules.
pub record IsLegal (image : Image) (d : Declaration) (s : State) (ks : Calls) : Type 0 where
  pub stays : StaysInBody d s ks
  pub writes : WritesDeclared d (instruction d.profile s) s ks
  pub calls : CallsEntries d (instruction d.profile s) s
  pub returns : ReturnsToItsCall d (instruction d.profile s) s ks
  pub halts : HaltsDeclared d (instruction d.profile s) s.pc
  pub code : KeepsCode image d s.memory
  pub reads : ReadsListed d (instruction d.profile s) s ks
  pub assertions : AssertionsHold d (instruction d.profile s) s ks

-- Without a list of reads, the rule on reads requires nothing.
abbrev pub UnlistedReadsAreKept : Type 0
UnlistedReadsAreKept = (d : Declaration) (m : Meaning) (s : State) (ks : Calls) → d.reads ≡ None → ReadsListed d m s ks

-- Without assertions, the rule on assertions requires nothing.
abbrev pub UnassertedHolds : Type 0
UnassertedHolds =
    (d : Declaration) (m : Meaning) (s : State) (ks : Calls) → d.holds ≡ [] → d.returns ≡ [] → AssertionsHold d m s ks
