-- What is asked of one word at the address of a fact before its outcomes are looked at.
use Rattle.std.specs.Prelude.{◌≡◌, ℕ, ◌+◌, ◌<◌, ◌≤◌, ◌==◌, nat_lt, nat_le, true, false, ◌&&◌, ◌||◌, ◌⊎◌, Some, List, [], ◌∷◌}
use Rattle.instruct.specs.Instructions.{Meaning, And, Tad, Isz, Dca, Jms, Jmp}
use Rattle.wordset.specs.Words.{Words, only, IsWithin}
use Rattle.declaration.specs.Declaration.{Assertion, PlaceAssertion, ReturnAssertion, IsListed}
use Rattle.declaration.specs.declared.Subject.{Subject}
use Rattle.declaration.specs.declared.Subject.TheVariants as subject
use Rattle.policy.specs.Rules.{pointer_of}
use Rattle.domain.specs.Facts.{Fact, Place, Rules, OfEquations, OfSums}
use Rattle.facts.specs.Instructions.{MayWrite}
use Rattle.transfer.specs.References.{targets, own_words, words_in}
use Rattle.transfer.specs.Outcomes.{ac_of}

-- The cells in which ISZ or DCA may store.
abbrev pub may_store : Place → Fact → Meaning → Words
may_store pl f (Isz i c) a = targets pl i c f a
may_store pl f (Dca i c) a = targets pl i c f a
may_store pl f _ a = false

-- The cells that a word may write, a stepped pointer among them; except the one that a JMS itself
-- writes.
abbrev pub may_write : Place → Fact → Meaning → Words
may_write pl f m a = pointer_of m a || may_store pl f m a

-- The cells that a word may read: an indirect reference's pointer, and the operands of AND, TAD and ISZ.
abbrev pub may_read : Place → Fact → Meaning → Words
may_read pl f (And i c) a = (i && (a == c)) || targets pl i c f a
may_read pl f (Tad i c) a = (i && (a == c)) || targets pl i c f a
may_read pl f (Isz i c) a = (i && (a == c)) || targets pl i c f a
may_read pl f (Dca i c) a = i && (a == c)
may_read pl f (Jms i c) a = i && (a == c)
may_read pl f (Jmp i c) a = i && (a == c)
may_read pl f _ a = false

-- The cells that a JMS may call.
abbrev pub called : Place → Fact → Meaning → Words
called pl f (Jms i c) a = targets pl i c f a
called pl f _ a = false

-- Each cell that the word may write is a variable or an entry.
abbrev pub WritesAreDeclared : Place → Fact → Meaning → Type 0
WritesAreDeclared pl f m =
    (a : ℕ) → a < 4096 → may_write pl f m a ≡ true →
    (pl.declaration.variable a ≡ true) ⊎ (pl.declaration.entry a ≡ true)

-- The return word may be incremented once more. By the rules of equations it is not seven up already, or more. By those of sums
-- it is not 77 up already, and it is not 7777, so that the ISZ does not skip.
abbrev pub MayCount : Rules → Fact → Type 0
MayCount OfEquations f = (o : ℕ) → 7 ≤ o → o < 64 → f.offsets o ≡ false
MayCount OfSums f = (f.offsets 63 ≡ false) × (own_words f 4095 ≡ false)

-- ISZ of the running routine's own entry alone, which may be incremented once more.
abbrev pub CountsItsReturn : Place → Fact → Meaning → ℕ → Type 0
CountsItsReturn pl f (Isz i c) a =
    (pl.routine ≡ Some a) × (only (targets pl i c f) ≡ Some a) × MayCount pl.rules f
CountsItsReturn pl f _ a = ⊥

-- The 64 words above an address, none of them beyond 7777: the return address, one above it, and more by the offsets 1 to 77.
abbrev pub reach : ℕ → Words
reach a w = nat_lt a w && nat_le w (a + 64)

-- Each of these words lies 0 to 77 past the return address of each of the fact's sites.
abbrev pub AreInReach : Fact → Words → Type 0
AreInReach f known = (a : ℕ) → a < 4096 → f.sites a ≡ true → IsWithin known (reach a)

-- DCA that names the running routine's own entry directly, where the declaration lets the routine store there, and each word of
-- the accumulator lies 0 to 77 past each return address.
abbrev pub MovesItsReturn : Place → Fact → Meaning → ℕ → Type 0
MovesItsReturn pl f (Dca i c) a =
    (i ≡ false) × (pl.routine ≡ Some a) × (pl.declaration.moves a ≡ true) × AreInReach f (ac_of pl f)
MovesItsReturn pl f _ a = ⊥

-- No cell that the word may write is an entry, except under such an ISZ or such a DCA.
abbrev pub EntriesAreKept : Place → Fact → Meaning → Type 0
EntriesAreKept pl f m =
    (a : ℕ) → a < 4096 → may_write pl f m a ≡ true → pl.declaration.entry a ≡ true →
    CountsItsReturn pl f m a ⊎ MovesItsReturn pl f m a

-- Each cell that the word may write is one that the routine may write.
abbrev pub WritesAreListed : Place → Words → Fact → Meaning → Type 0
WritesAreListed pl writes f m =
    (a : ℕ) → a < 4096 → may_write pl f m a ≡ true → MayWrite writes pl.routine a

-- Each cell that the word may read is on the list of reads, if there is one, or is the routine's own entry.
abbrev pub ReadsAreListed : Place → Fact → Meaning → Type 0
ReadsAreListed pl f m =
    (a : ℕ) → a < 4096 → may_read pl f m a ≡ true → IsListed pl.declaration.reads a ⊎ (pl.routine ≡ Some a)

-- Some links, 0 and 1, as words.
abbrev pub link_words : Words → Words
link_words links w = nat_lt w 2 && links w

-- The words that the subject of an assertion may have by the fact.
abbrev pub may_be : Place → Fact → Subject → Words
may_be pl f subject.Accumulator = ac_of pl f
may_be pl f subject.Link = link_words f.link
may_be pl f subject.Mq = f.mq
may_be pl f (subject.Cell a) = words_in pl f a

-- By the fact what is asserted is so: each word that the subject may have is asserted.
abbrev pub IsAsserted : Place → Fact → Assertion → Type 0
IsAsserted pl f a = IsWithin (may_be pl f a.subject) a.words

-- By the fact the subject of an assertion may have this word, which is not asserted.
pub record IsDenied (pl : Place) (f : Fact) (a : Assertion) (w : ℕ) : Type 0 where
  pub small : w < 4096
  pub possible : may_be pl f a.subject w ≡ true
  pub excluded : a.words w ≡ false

-- By the fact all is so that is to hold at an address.
abbrev pub EachIsHeld : Place → Fact → ℕ → List PlaceAssertion → Type 0
EachIsHeld pl f a [] = Unit {0}
EachIsHeld pl f a (h ∷ hs) = (h.places a ≡ true → IsAsserted pl f h.assertion) × EachIsHeld pl f a hs

-- By the exit all is so that is to hold when the routine of an entry returns by an offset.
abbrev pub EachIsHeldBy : Place → Fact → ℕ → ℕ → List ReturnAssertion → Type 0
EachIsHeldBy pl f e o [] = Unit {0}
EachIsHeldBy pl f e o (r ∷ rs) =
    (r.entry ≡ e → r.offsets o ≡ true → IsAsserted pl f r.assertion) × EachIsHeldBy pl f e o rs
