-- The tests on a fetched instruction decide the rules on it.
use Rattle.std.proofs.Common.{ℕ, ◌≡◌, ◌<◌, ◌≤◌, ◌+◌, ◌%◌, ◌==◌, Bool, true, false, ◌&&◌, ◌||◌, ◌⊎◌, inl, inr, Option, Some, None, List, [], ◌∷◌, refl, sym, ap, ◌∙◌, subst, arith}
use Rattle.std.specs.Prelude.{if◌then◌else◌, not, nat_lt}
use Rattle.std.proofs.lemmas.Bool.{and_parts, true≢false, false≢true, ltb-true, lt-ltb}
use Rattle.std.proofs.lemmas.Bool.Decides.{eqb_tells}
use Rattle.instruct.specs.Operates.{is_halt}
use Rattle.instruct.specs.Instructions.{Meaning, And, Tad, Isz, Dca, Jms, Jmp, Group1, Group2, Group3, Device, Undefined, kind_of}
use Rattle.instruct.specs.declared.Profile.{Profile}
use Rattle.instruct.proofs.KindLemmas.{group2_meaning}
use Rattle.wordset.specs.Words.{Words, minus}
use Rattle.processor.specs.Cells.{Cells, AreWords}
use Rattle.processor.specs.Fetch.{decoded, fetched}
use Rattle.processor.specs.Machine.{State, place, steps_pointer, instruction}
use Rattle.processor.specs.Runs.{Image}
use Rattle.instruct.specs.declared.Operation.{Operation}
use Rattle.instruct.specs.declared.Operation.TheVariants as operation
use Rattle.processor.specs.declared.fetch.Reference.{Reference}
use Rattle.processor.specs.declared.fetch.DecodedInstruction.{DecodedInstruction}
use Rattle.processor.specs.declared.fetch.DecodedInstruction.TheVariants as fetch
use Rattle.policy.specs.declared.rules.Rule.{Rule}
use Rattle.policy.specs.declared.rules.Rule.TheVariants as rule
use Rattle.declaration.specs.Declaration.{Routine, Declaration, PlaceAssertion, ReturnAssertion}
use Rattle.policy.specs.Calls.{Calls, current}
use Rattle.declaration.specs.Declaration.{IsListed}
use Rattle.policy.specs.Rules.{IsSupported, written_by, read_by, StaysInBody, WritesDeclared, CallsEntries, FindsItsCall, ReturnsToItsCall, HaltsDeclared, ReadsListed, EachHolds, EachHoldsBy, HoldsAtReturn, ReturnsHold, AssertionsHold, UnassertedHolds, KeepsCode, IsLegal}
use Rattle.policy.specs.Decided.{is_own, is_jms, is_jmp, implies, may_write_own, may_write, writes, finds_call, returns, is_listed, may_load, reads, broken_by, is_so, each_holds, each_holds_by, holds_at_return, returns_hold, assertions_hold}
use Rattle.policy.specs.Watching.{number_of, Keeps, IsLeastBroken}

-- a test that is true exactly where a fact holds
abbrev pub Decides : Bool → Type 0 → Type 0
Decides b P = (b ≡ true → P) × (P → b ≡ true)

or_cases : (a b : Bool) → (a || b) ≡ true → (a ≡ true) ⊎ (b ≡ true)
or_cases true b h = inl refl
or_cases false b h = inr h

or_first : (a b : Bool) → a ≡ true → (a || b) ≡ true
or_first true b h = refl
or_first false b h = cc

or_second : (a b : Bool) → b ≡ true → (a || b) ≡ true
or_second true b h = refl
or_second false b h = h

and_both : (a b : Bool) → a ≡ true → b ≡ true → (a && b) ≡ true
and_both true b p q = q
and_both false b p q = p

implies_on : (a b : Bool) → implies a b ≡ true → a ≡ true → b ≡ true
implies_on true b h on = h
implies_on false b h on = cc

implies_made : (a b : Bool) → (a ≡ true → b ≡ true) → implies a b ≡ true
implies_made true b f = f refl
implies_made false b f = refl

same_number : (a b : ℕ) → (a == b) ≡ true → a ≡ b
same_number a b h = elim (eqb_tells a b) [
  | inl same ↦ same.1
  | inr apart ↦ absurd (true≢false (sym h ∙ apart.0))
]

equal_number : (a : ℕ) → (a == a) ≡ true
equal_number a = elim (eqb_tells a a) [
  | inl same ↦ same.0
  | inr apart ↦ absurd (apart.1 refl)
]

-- the own entry
own : (r : Routine) (a : ℕ) → Decides (is_own r a) (r ≡ Some a)
own None a = (λ h. cc, λ h. cc)
own (Some e) a = (λ h. ap (λ (x : ℕ). Some x) (same_number e a h), λ h. let same : e ≡ a = cc in rw same (equal_number a))

or_decides : (a b : Bool) (P Q : Type 0) → Decides a P → Decides b Q → Decides (a || b) (P ⊎ Q)
or_decides true b P Q da db = (λ h. inl (da.0 refl), λ h. refl)
or_decides false b P Q da db = (λ h. inr (db.0 h), λ (h : P ⊎ Q). elim h [ inl p ↦ absurd (false≢true (da.1 p)) | inr q ↦ db.1 q ])

-- what is asked of up to two cells
one_cell : (ok : ℕ → Bool) (Ok : ℕ → Type 0) → ((a : ℕ) → Decides (ok a) (Ok a)) → (p : Bool) (c : ℕ) →
    Decides (implies p (ok c)) ((a : ℕ) → (p && (a == c)) ≡ true → Ok a)
one_cell ok Ok decide true c = (λ h a at. subst Ok (sym (same_number a c at)) ((decide c).0 h), λ f. (decide c).1 (f c (equal_number c)))
one_cell ok Ok decide false c = (λ h a at. absurd (false≢true at), λ f. refl)

both : (a b : Bool) (P Q R : Type 0) → Decides a P → Decides b Q → (P → Q → R) → (R → P) → (R → Q) → Decides (a && b) R
both true true P Q R da db pq p q = (λ h. pq (da.0 refl) (db.0 refl), λ r. refl)
both true false P Q R da db pq p q = (λ h. cc, λ r. db.1 (q r))
both false b P Q R da db pq p q = (λ h. cc, λ r. da.1 (p r))

two_cells : (ok : ℕ → Bool) (Ok : ℕ → Type 0) → ((a : ℕ) → Decides (ok a) (Ok a)) → (p : Bool) (c : ℕ) (q : Bool) (y : ℕ) →
    Decides (implies p (ok c) && implies q (ok y)) ((a : ℕ) → ((p && (a == c)) || (q && (a == y))) ≡ true → Ok a)
two_cells ok Ok decide p c q y =
    both (implies p (ok c)) (implies q (ok y))
    ((a : ℕ) → (p && (a == c)) ≡ true → Ok a)
    ((a : ℕ) → (q && (a == y)) ≡ true → Ok a)
    ((a : ℕ) → ((p && (a == c)) || (q && (a == y))) ≡ true → Ok a)
    (one_cell ok Ok decide p c) (one_cell ok Ok decide q y)
    (λ f g a at. elim (or_cases (p && (a == c)) (q && (a == y)) at) [ inl x ↦ f a x | inr x ↦ g a x ])
    (λ f a at. f a (or_first (p && (a == c)) (q && (a == y)) at))
    (λ f a at. f a (or_second (p && (a == c)) (q && (a == y)) at))

-- one_cell beside nothing
alone : (ok : ℕ → Bool) (Ok : ℕ → Type 0) → ((a : ℕ) → Decides (ok a) (Ok a)) → (p : Bool) (c : ℕ) →
    Decides (implies p (ok c) && true) ((a : ℕ) → (p && (a == c)) ≡ true → Ok a)
alone ok Ok decide true c = (λ h. (one_cell ok Ok decide true c).0 (and_parts (ok c) true h).0, λ f. and_both (ok c) true ((one_cell ok Ok decide true c).1 f) refl)
alone ok Ok decide false c = (λ h a at. absurd (false≢true at), λ f. refl)

-- the own entry under ISZ, and under a direct DCA
plain_write : (d : Declaration) (o : Operation) (i : Bool) (ks : Calls) → ((a : ℕ) → may_write_own d o i a ≡ false) → (a : ℕ) → Decides (may_write d o i (current ks) a) ((d.variable a ≡ true) ⊎ ⊥)
plain_write d o i ks not_own a = rw (not_own a) (or_decides (d.variable a) false (d.variable a ≡ true) ⊥ (λ h. h, λ h. h) (λ h. cc, λ h. absurd h))

isz_write : (d : Declaration) (i : Bool) (ks : Calls) (a : ℕ) → Decides (may_write d operation.Isz i (current ks) a) ((d.variable a ≡ true) ⊎ (current ks ≡ Some a))
isz_write d i ks a = or_decides (d.variable a) (is_own (current ks) a) (d.variable a ≡ true) (current ks ≡ Some a) (λ h. h, λ h. h) (own (current ks) a)

is_not : (b : Bool) → Decides (not b) (b ≡ false)
is_not true = (λ h. cc, λ h. cc)
is_not false = (λ h. refl, λ h. refl)

and_decides : (a b : Bool) (P Q : Type 0) → Decides a P → Decides b Q → Decides (a && b) (P × Q)
and_decides true b P Q da db = (λ h. (da.0 refl, db.0 h), λ p. db.1 p.1)
and_decides false b P Q da db = (λ h. cc, λ p. absurd (false≢true (da.1 p.0)))

moved : (x y z : Bool) (P Q R : Type 0) → Decides x P → Decides y Q → Decides z R → Decides ((x && y) && z) (P × Q × R)
moved true y z P Q R dx dy dz = (λ h. let parts = (and_decides y z Q R dy dz).0 h in (dx.0 refl, parts.0, parts.1), λ p. (and_decides y z Q R dy dz).1 (p.1, p.2))
moved false y z P Q R dx dy dz = (λ h. cc, λ p. absurd (false≢true (dx.1 p.0)))

dca_write : (d : Declaration) (i : Bool) (ks : Calls) (a : ℕ) → Decides (may_write d operation.Dca i (current ks) a) ((d.variable a ≡ true) ⊎ ((i ≡ false) × (d.moves a ≡ true) × (current ks ≡ Some a)))
dca_write d i ks a =
    or_decides (d.variable a) ((not i && d.moves a) && is_own (current ks) a) (d.variable a ≡ true) ((i ≡ false) × (d.moves a ≡ true) × (current ks ≡ Some a)) (λ h. h, λ h. h)
    (moved (not i) (d.moves a) (is_own (current ks) a) (i ≡ false) (d.moves a ≡ true) (current ks ≡ Some a) (is_not i) (λ h. h, λ h. h) (own (current ks) a))

listed : (r : Option Words) (a : ℕ) → Decides (is_listed r a) (IsListed r a)
listed None a = (λ h. tt, λ h. refl)
listed (Some cells) a = (λ h. h, λ h. h)

load : (d : Declaration) (ks : Calls) (a : ℕ) → Decides (may_load d (current ks) a) (IsListed d.reads a ⊎ (current ks ≡ Some a))
load d ks a = or_decides (is_listed d.reads a) (is_own (current ks) a) (IsListed d.reads a) (current ks ≡ Some a) (listed d.reads a) (own (current ks) a)

-- a return address and its distance from the call
back : (word from : ℕ) → word < 4096 → word ≡ (from + minus word from) % 4096
back word from small = omega arith

away : (from o : ℕ) → o < 64 → minus ((from + o) % 4096) from ≡ o
away from o low = omega arith

found : (d : Declaration) (e : ℕ) (s : State) (ks : Calls) → AreWords s.memory → Decides (finds_call d e (s.memory e) ks) (FindsItsCall d e s ks)
found d e s [] words = (λ h. cc, λ h. absurd h)
found d e s (k ∷ ks) words = (
  λ h.
      let parts = and_parts (k.entry == e) _ h in
      let more = and_parts (nat_lt (minus (s.memory e) k.after) 64) _ parts.1 in
      (same_number k.entry e parts.0, minus (s.memory e) k.after, ltb-true (minus (s.memory e) k.after) 64 more.0, more.1, back (s.memory e) k.after (words e)),
  λ f.
      let at : minus (s.memory e) k.after ≡ f.1 = rw f.4 (away k.after f.1 f.2) in
      let same : (k.entry == e) ≡ true = rw f.0 (equal_number e) in
      let low : nat_lt f.1 64 ≡ true = lt-ltb f.1 64 f.2 in
      rw at (and_both (k.entry == e) _ same (and_both (nat_lt f.1 64) _ low f.3)),
)

return_decides : (d : Declaration) (i : Bool) (c : ℕ) (s : State) (ks : Calls) → AreWords s.memory →
    Decides (implies (i && d.entry c) (finds_call d c (s.memory c) ks)) (i ≡ true → d.entry c ≡ true → FindsItsCall d c s ks)
return_decides d i c s ks words = (
  λ h on entry. (found d c s ks words).0 (implies_on (i && d.entry c) (finds_call d c (s.memory c) ks) h (and_both i (d.entry c) on entry)),
  λ f. implies_made (i && d.entry c) (finds_call d c (s.memory c) ks) (λ on. (found d c s ks words).1 (f (and_parts i (d.entry c) on).0 (and_parts i (d.entry c) on).1)),
)

-- what is asserted
implied : (a b : Bool) → Decides (implies a b) (a ≡ true → b ≡ true)
implied a b = (implies_on a b, implies_made a b)

places_decide : (hs : List PlaceAssertion) (s : State) → Decides (each_holds hs s) (EachHolds hs s)
places_decide [] s = (λ h. tt, λ p. refl)
places_decide (h ∷ hs) s =
    and_decides (implies (h.places s.pc) (is_so h.assertion s)) (each_holds hs s) (h.places s.pc ≡ true → is_so h.assertion s ≡ true) (EachHolds hs s) (implied (h.places s.pc) (is_so h.assertion s)) (places_decide hs s)

by_decides : (r : ReturnAssertion) (e o : ℕ) (s : State) → Decides (implies ((r.entry == e) && r.offsets o) (is_so r.assertion s)) (r.entry ≡ e → r.offsets o ≡ true → is_so r.assertion s ≡ true)
by_decides r e o s = (
  λ h same by. implies_on ((r.entry == e) && r.offsets o) (is_so r.assertion s) h (and_both (r.entry == e) (r.offsets o) (rw same (equal_number e)) by),
  λ f. implies_made ((r.entry == e) && r.offsets o) (is_so r.assertion s) (λ on. let parts = and_parts (r.entry == e) (r.offsets o) on in f (same_number r.entry e parts.0) parts.1),
)

all_by_decide : (rs : List ReturnAssertion) (e o : ℕ) (s : State) → Decides (each_holds_by rs e o s) (EachHoldsBy rs e o s)
all_by_decide [] e o s = (λ h. tt, λ p. refl)
all_by_decide (r ∷ rs) e o s =
    and_decides (implies ((r.entry == e) && r.offsets o) (is_so r.assertion s)) (each_holds_by rs e o s) (r.entry ≡ e → r.offsets o ≡ true → is_so r.assertion s ≡ true) (EachHoldsBy rs e o s) (by_decides r e o s) (all_by_decide rs e o s)

at_return_decides : (d : Declaration) (e : ℕ) (s : State) (ks : Calls) → Decides (holds_at_return d e s ks) (HoldsAtReturn d e s ks)
at_return_decides d e s [] = (λ h. tt, λ p. refl)
at_return_decides d e s (k ∷ ks) =
    let by : Decides (each_holds_by d.returns e (minus (s.memory e) k.after) s) (EachHoldsBy d.returns e (minus (s.memory e) k.after) s) = all_by_decide d.returns e (minus (s.memory e) k.after) s in (
      λ h same. by.0 (implies_on (k.entry == e) (each_holds_by d.returns e (minus (s.memory e) k.after) s) h (rw same (equal_number e))),
      λ f. implies_made (k.entry == e) (each_holds_by d.returns e (minus (s.memory e) k.after) s) (λ on. by.1 (f (same_number k.entry e on))),
    )

returned_decides : (d : Declaration) (m : Meaning) (s : State) (ks : Calls) → Decides (returns_hold d (decoded m (s.memory s.pc) s.memory) s ks) (ReturnsHold d m s ks)
returned_decides d (Jmp i c) s ks = (
  λ h on entry. (at_return_decides d c s ks).0 (implies_on (i && d.entry c) (holds_at_return d c s ks) h (and_both i (d.entry c) on entry)),
  λ f. implies_made (i && d.entry c) (holds_at_return d c s ks) (λ on. (at_return_decides d c s ks).1 (f (and_parts i (d.entry c) on).0 (and_parts i (d.entry c) on).1)),
)
returned_decides d (And i c) s ks = (λ h. tt, λ p. refl)
returned_decides d (Tad i c) s ks = (λ h. tt, λ p. refl)
returned_decides d (Isz i c) s ks = (λ h. tt, λ p. refl)
returned_decides d (Dca i c) s ks = (λ h. tt, λ p. refl)
returned_decides d (Jms i c) s ks = (λ h. tt, λ p. refl)
returned_decides d (Group1 w) s ks = (λ h. tt, λ p. refl)
returned_decides d (Group2 w) s ks = (λ h. tt, λ p. refl)
returned_decides d (Group3 o) s ks = (λ h. tt, λ p. refl)
returned_decides d (Device x) s ks = (λ h. tt, λ p. refl)
returned_decides d Undefined s ks = (λ h. tt, λ p. refl)

abbrev asserted : Declaration → Meaning → State → Calls → Bool
asserted d m s ks = assertions_hold d (decoded m (s.memory s.pc) s.memory) s ks

asserted_decides : (d : Declaration) (m : Meaning) (s : State) (ks : Calls) → Decides (asserted d m s ks) (AssertionsHold d m s ks)
asserted_decides d m s ks =
    both (each_holds d.holds s) (returns_hold d (decoded m (s.memory s.pc) s.memory) s ks) (EachHolds d.holds s) (ReturnsHold d m s ks) (AssertionsHold d m s ks)
    (places_decide d.holds s) (returned_decides d m s ks) (λ p r. record { places = p; returns = r }) (λ x. x.places) (λ x. x.returns)

-- the last rule, where none before it is broken
abbrev pub then_asserted : Option Rule → Bool → Option Rule
then_asserted (Some r) a = Some r
then_asserted None a = if not a then Some rule.AssertionsHold else None

-- the least rule by seven tests
abbrev pub chain : Bool → Bool → Bool → Bool → Bool → Bool → Bool → Option Rule
chain b w c r h l a =
    if not b then Some rule.StaysInBody
    else (if not w then Some rule.WritesDeclared
    else (if not c then Some rule.CallsEntries
    else (if not r then Some rule.ReturnsToItsCall
    else (if not h then Some rule.HaltsDeclared
    else (if not l then Some rule.ReadsListed
    else (if not a then Some rule.AssertionsHold
    else None))))))

-- the least rule that the next step breaks, where fixed code is as it was
abbrev pub least_broken : Declaration → DecodedInstruction → State → Calls → Option Rule
least_broken d i s ks =
    if d.body (current ks) s.pc then then_asserted (broken_by d i s.pc (current ks) s.memory ks) (assertions_hold d i s ks) else Some rule.StaysInBody

-- the seven tests of an instruction
pub record Tests (d : Declaration) (m : Meaning) (s : State) (ks : Calls) : Type 0 where
  pub b : Bool
  pub w : Bool
  pub c : Bool
  pub r : Bool
  pub h : Bool
  pub l : Bool
  pub a : Bool
  pub stays : Decides b ((d.body (current ks) s.pc ≡ true) × IsSupported m)
  pub writes : Decides w (WritesDeclared d m s ks)
  pub calls : Decides c (CallsEntries d m s)
  pub returns : Decides r (ReturnsToItsCall d m s ks)
  pub halts : Decides h (HaltsDeclared d m s.pc)
  pub reads : Decides l (ReadsListed d m s ks)
  pub asserts : Decides a (AssertionsHold d m s ks)
  pub is : least_broken d (decoded m (s.memory s.pc) s.memory) s ks ≡ chain b w c r h l a

-- the test of the body comes first, and that of what is asserted last
by_reference : (b w c r l a : Bool) → (if b then then_asserted (if not w then Some rule.WritesDeclared else (if not c then Some rule.CallsEntries else (if not r then Some rule.ReturnsToItsCall else (if not l then Some rule.ReadsListed else None)))) a else Some rule.StaysInBody)
    ≡ chain b w c r true l a
by_reference false w c r l a = refl
by_reference true false c r l a = refl
by_reference true true false r l a = refl
by_reference true true true false l a = refl
by_reference true true true true false a = refl
by_reference true true true true true a = refl

by_none : (b a : Bool) → (if b then then_asserted None a else Some rule.StaysInBody) ≡ chain b true true true true true a
by_none true a = refl
by_none false a = refl

abbrev reference : Operation → Bool → ℕ → Cells → Reference
reference o i c memory = record { operation = o; indirect = i; named = c; place = place i c memory }

nothing_decides : (P : Type 0) → P → Decides true P
nothing_decides P p = (λ h. p, λ q. refl)

stays_decides : (d : Declaration) (m : Meaning) (s : State) (ks : Calls) → IsSupported m → Decides (d.body (current ks) s.pc) ((d.body (current ks) s.pc ≡ true) × IsSupported m)
stays_decides d m s ks supported = (λ h. (h, supported), λ p. p.0)

-- a memory reference that isn't a JMS or a JMP I is asked only of what it writes and reads
plain_tests : (d : Declaration) (m : Meaning) (s : State) (ks : Calls) (r : Reference) → decoded m (s.memory s.pc) s.memory ≡ fetch.Refers r →
    IsSupported m → is_jms r.operation ≡ false → is_jmp r.operation ≡ false →
    CallsEntries d m s → ReturnsToItsCall d m s ks → HaltsDeclared d m s.pc →
    Decides (writes d r (current ks)) (WritesDeclared d m s ks) → Decides (reads d r (current ks)) (ReadsListed d m s ks) → Tests d m s ks
plain_tests d m s ks r does supported not_jms not_jmp calls returns halts dw dr = record {
  b = d.body (current ks) s.pc;
  w = writes d r (current ks);
  c = true;
  r = true;
  h = true;
  l = reads d r (current ks);
  a = asserted d m s ks;
  stays = stays_decides d m s ks supported;
  writes = dw;
  calls = nothing_decides (CallsEntries d m s) calls;
  returns = nothing_decides (ReturnsToItsCall d m s ks) returns;
  halts = nothing_decides (HaltsDeclared d m s.pc) halts;
  reads = dr;
  asserts = asserted_decides d m s ks;
  is = rw (does, not_jms, not_jmp) (by_reference (d.body (current ks) s.pc) (writes d r (current ks)) true true (reads d r (current ks)) _);
}

-- an instruction that doesn't refer to memory
quiet_tests : (d : Declaration) (m : Meaning) (s : State) (ks : Calls) → broken_by d (decoded m (s.memory s.pc) s.memory) s.pc (current ks) s.memory ks ≡ None →
    IsSupported m → WritesDeclared d m s ks → CallsEntries d m s → ReturnsToItsCall d m s ks → HaltsDeclared d m s.pc → ReadsListed d m s ks → Tests d m s ks
quiet_tests d m s ks does supported writes calls returns halts reads = record {
  b = d.body (current ks) s.pc;
  w = true;
  c = true;
  r = true;
  h = true;
  l = true;
  a = asserted d m s ks;
  stays = stays_decides d m s ks supported;
  writes = nothing_decides (WritesDeclared d m s ks) writes;
  calls = nothing_decides (CallsEntries d m s) calls;
  returns = nothing_decides (ReturnsToItsCall d m s ks) returns;
  halts = nothing_decides (HaltsDeclared d m s.pc) halts;
  reads = nothing_decides (ReadsListed d m s ks) reads;
  asserts = asserted_decides d m s ks;
  is = rw does (by_none (d.body (current ks) s.pc) _);
}

no_write : (d : Declaration) (m : Meaning) (s : State) (ks : Calls) → ((a : ℕ) → written_by m s.memory a ≡ false) → WritesDeclared d m s ks
no_write d m s ks none = λ a at. absurd (false≢true (sym (none a) ∙ at))

no_read : (d : Declaration) (m : Meaning) (s : State) (ks : Calls) → ((a : ℕ) → read_by m s.memory a ≡ false) → ReadsListed d m s ks
no_read d m s ks none = λ a at. absurd (false≢true (sym (none a) ∙ at))

jms_tests : (d : Declaration) (i : Bool) (c : ℕ) (s : State) (ks : Calls) → Tests d (Jms i c) s ks
jms_tests d i c s ks = record {
  b = d.body (current ks) s.pc;
  w = writes d (reference operation.Jms i c s.memory) (current ks);
  c = d.entry (place i c s.memory);
  r = true;
  h = true;
  l = reads d (reference operation.Jms i c s.memory) (current ks);
  a = asserted d (Jms i c) s ks;
  stays = stays_decides d (Jms i c) s ks tt;
  writes = two_cells (may_write d operation.Jms i (current ks)) (λ a. (d.variable a ≡ true) ⊎ ⊥) (plain_write d operation.Jms i ks (λ a. refl)) (steps_pointer i c) c false 0;
  calls = (λ h. h, λ h. h);
  returns = nothing_decides (Unit {0}) tt;
  halts = nothing_decides (Unit {0}) tt;
  reads = alone (may_load d (current ks)) (λ a. IsListed d.reads a ⊎ (current ks ≡ Some a)) (load d ks) i c;
  asserts = asserted_decides d (Jms i c) s ks;
  is = by_reference (d.body (current ks) s.pc) (writes d (reference operation.Jms i c s.memory) (current ks)) (d.entry (place i c s.memory)) true (reads d (reference operation.Jms i c s.memory) (current ks)) _;
}

jmp_tests : (d : Declaration) (i : Bool) (c : ℕ) (s : State) (ks : Calls) → AreWords s.memory → Tests d (Jmp i c) s ks
jmp_tests d i c s ks words = record {
  b = d.body (current ks) s.pc;
  w = writes d (reference operation.Jmp i c s.memory) (current ks);
  c = true;
  r = implies (i && d.entry c) (finds_call d c (s.memory c) ks);
  h = true;
  l = reads d (reference operation.Jmp i c s.memory) (current ks);
  a = asserted d (Jmp i c) s ks;
  stays = stays_decides d (Jmp i c) s ks tt;
  writes = two_cells (may_write d operation.Jmp i (current ks)) (λ a. (d.variable a ≡ true) ⊎ ⊥) (plain_write d operation.Jmp i ks (λ a. refl)) (steps_pointer i c) c false 0;
  calls = nothing_decides (Unit {0}) tt;
  returns = return_decides d i c s ks words;
  halts = nothing_decides (Unit {0}) tt;
  reads = alone (may_load d (current ks)) (λ a. IsListed d.reads a ⊎ (current ks ≡ Some a)) (load d ks) i c;
  asserts = asserted_decides d (Jmp i c) s ks;
  is =
      by_reference (d.body (current ks) s.pc) (writes d (reference operation.Jmp i c s.memory) (current ks)) true (implies (i && d.entry c) (finds_call d c (s.memory c) ks))
      (reads d (reference operation.Jmp i c s.memory) (current ks)) _;
}

halt_is : (b h a : Bool) → (if b then then_asserted (if not h then Some rule.HaltsDeclared else None) a else Some rule.StaysInBody) ≡ chain b true true true h true a
halt_is true true a = refl
halt_is true false a = refl
halt_is false h a = refl

halt_tests : (d : Declaration) (word : ℕ) (s : State) (ks : Calls) → word ≡ s.memory s.pc → is_halt word ≡ true → Tests d (Group2 word) s ks
halt_tests d word s ks here halt = record {
  b = d.body (current ks) s.pc;
  w = true;
  c = true;
  r = true;
  h = d.stop s.pc || d.pause s.pc;
  l = true;
  a = asserted d (Group2 word) s ks;
  stays = stays_decides d (Group2 word) s ks tt;
  writes = nothing_decides (WritesDeclared d (Group2 word) s ks) (no_write d (Group2 word) s ks (λ a. refl));
  calls = nothing_decides (Unit {0}) tt;
  returns = nothing_decides (Unit {0}) tt;
  halts = (λ h on. h, λ f. f halt);
  reads = nothing_decides (ReadsListed d (Group2 word) s ks) (no_read d (Group2 word) s ks (λ a. refl));
  asserts = asserted_decides d (Group2 word) s ks;
  is = rw (← here, halt) (halt_is (d.body (current ks) s.pc) (d.stop s.pc || d.pause s.pc) _);
}

go_tests : (d : Declaration) (word : ℕ) (s : State) (ks : Calls) → word ≡ s.memory s.pc → is_halt word ≡ false → Tests d (Group2 word) s ks
go_tests d word s ks here none =
    quiet_tests d (Group2 word) s ks (rw (← here, none) refl) tt (no_write d (Group2 word) s ks (λ a. refl)) tt tt (λ on. absurd (false≢true (sym none ∙ on))) (no_read d (Group2 word) s ks (λ a. refl))

group2_tests : (d : Declaration) (word : ℕ) (s : State) (ks : Calls) (halt : Bool) → word ≡ s.memory s.pc → is_halt word ≡ halt → Tests d (Group2 word) s ks
group2_tests d word s ks true here is = halt_tests d word s ks here is
group2_tests d word s ks false here is = go_tests d word s ks here is

undefined_is : (b a : Bool) → (if b then Some rule.StaysInBody else Some rule.StaysInBody) ≡ chain false true true true true true a
undefined_is true a = refl
undefined_is false a = refl

undefined_tests : (d : Declaration) (s : State) (ks : Calls) → Tests d Undefined s ks
undefined_tests d s ks = record {
  b = false;
  w = true;
  c = true;
  r = true;
  h = true;
  l = true;
  a = asserted d Undefined s ks;
  stays = (λ h. cc, λ p. absurd p.1);
  writes = nothing_decides (WritesDeclared d Undefined s ks) (no_write d Undefined s ks (λ a. refl));
  calls = nothing_decides (Unit {0}) tt;
  returns = nothing_decides (Unit {0}) tt;
  halts = nothing_decides (Unit {0}) tt;
  reads = nothing_decides (ReadsListed d Undefined s ks) (no_read d Undefined s ks (λ a. refl));
  asserts = asserted_decides d Undefined s ks;
  is = undefined_is (d.body (current ks) s.pc) (asserted d Undefined s ks);
}

-- the tests of each instruction
pub tests : (d : Declaration) (m : Meaning) (s : State) (ks : Calls) → AreWords s.memory → ((w : ℕ) → m ≡ Group2 w → w ≡ s.memory s.pc) → Tests d m s ks
tests d (And i c) s ks words same =
    plain_tests d (And i c) s ks (reference operation.And i c s.memory) refl tt refl refl tt tt tt
    (two_cells (may_write d operation.And i (current ks)) (λ a. (d.variable a ≡ true) ⊎ ⊥) (plain_write d operation.And i ks (λ a. refl)) (steps_pointer i c) c false 0)
    (two_cells (may_load d (current ks)) (λ a. IsListed d.reads a ⊎ (current ks ≡ Some a)) (load d ks) i c true (place i c s.memory))
tests d (Tad i c) s ks words same =
    plain_tests d (Tad i c) s ks (reference operation.Tad i c s.memory) refl tt refl refl tt tt tt
    (two_cells (may_write d operation.Tad i (current ks)) (λ a. (d.variable a ≡ true) ⊎ ⊥) (plain_write d operation.Tad i ks (λ a. refl)) (steps_pointer i c) c false 0)
    (two_cells (may_load d (current ks)) (λ a. IsListed d.reads a ⊎ (current ks ≡ Some a)) (load d ks) i c true (place i c s.memory))
tests d (Isz i c) s ks words same =
    plain_tests d (Isz i c) s ks (reference operation.Isz i c s.memory) refl tt refl refl tt tt tt
    (two_cells (may_write d operation.Isz i (current ks)) (λ a. (d.variable a ≡ true) ⊎ (current ks ≡ Some a)) (isz_write d i ks) (steps_pointer i c) c true (place i c s.memory))
    (two_cells (may_load d (current ks)) (λ a. IsListed d.reads a ⊎ (current ks ≡ Some a)) (load d ks) i c true (place i c s.memory))
tests d (Dca i c) s ks words same =
    plain_tests d (Dca i c) s ks (reference operation.Dca i c s.memory) refl tt refl refl tt tt tt
    (two_cells (may_write d operation.Dca i (current ks)) (λ a. (d.variable a ≡ true) ⊎ ((i ≡ false) × (d.moves a ≡ true) × (current ks ≡ Some a))) (dca_write d i ks) (steps_pointer i c) c true (place i c s.memory))
    (alone (may_load d (current ks)) (λ a. IsListed d.reads a ⊎ (current ks ≡ Some a)) (load d ks) i c)
tests d (Jms i c) s ks words same = jms_tests d i c s ks
tests d (Jmp i c) s ks words same = jmp_tests d i c s ks words
tests d (Group1 w) s ks words same = quiet_tests d (Group1 w) s ks refl tt (no_write d (Group1 w) s ks (λ a. refl)) tt tt tt (no_read d (Group1 w) s ks (λ a. refl))
tests d (Group2 w) s ks words same = group2_tests d w s ks (is_halt w) (same w refl) refl
tests d (Group3 o) s ks words same = quiet_tests d (Group3 o) s ks refl tt (no_write d (Group3 o) s ks (λ a. refl)) tt tt tt (no_read d (Group3 o) s ks (λ a. refl))
tests d (Device x) s ks words same = quiet_tests d (Device x) s ks refl tt (no_write d (Device x) s ks (λ a. refl)) tt tt tt (no_read d (Device x) s ks (λ a. refl))
tests d Undefined s ks words same = undefined_tests d s ks

-- where no test fails, all of them hold
all_hold : (b w c r h l a : Bool) → chain b w c r h l a ≡ None → (b ≡ true) × (w ≡ true) × (c ≡ true) × (r ≡ true) × (h ≡ true) × (l ≡ true) × (a ≡ true)
all_hold false w c r h l a is = cc
all_hold true false c r h l a is = cc
all_hold true true false r h l a is = cc
all_hold true true true false h l a is = cc
all_hold true true true true false l a is = cc
all_hold true true true true true false a is = cc
all_hold true true true true true true false is = cc
all_hold true true true true true true true is = (refl, refl, refl, refl, refl, refl, refl)

legal_by : (image : Image) (d : Declaration) (s : State) (ks : Calls) → KeepsCode image d s.memory → (t : Tests d (instruction d.profile s) s ks) → chain t.b t.w t.c t.r t.h t.l t.a ≡ None → IsLegal image d s ks
legal_by image d s ks code t is =
    let all = all_hold t.b t.w t.c t.r t.h t.l t.a is in
    let stays = t.stays.0 all.0 in
    record {
      stays = record { in_body = stays.0; supported = stays.1 };
      writes = t.writes.0 all.1;
      calls = t.calls.0 all.2;
      returns = t.returns.0 all.3;
      halts = t.halts.0 all.4;
      code = code;
      reads = t.reads.0 all.5;
      assertions = t.asserts.0 all.6;
    }

-- a rule fails, and those of lesser numbers hold
pub record Least (K : Rule → Type 0) (failing : Rule) : Type 0 where
  pub broken : K failing → ⊥
  pub least : (other : Rule) → number_of other < number_of failing → K other

by_number : (K : Rule → Type 0) (n : ℕ) → (1 < n → K rule.StaysInBody) → (2 < n → K rule.WritesDeclared) → (3 < n → K rule.CallsEntries) → (4 < n → K rule.ReturnsToItsCall) →
    (5 < n → K rule.HaltsDeclared) → (6 < n → K rule.KeepsCode) → (7 < n → K rule.ReadsListed) → (8 < n → K rule.AssertionsHold) → (other : Rule) → number_of other < n → K other
by_number K n k1 k2 k3 k4 k5 k6 k7 k8 rule.StaysInBody less = k1 less
by_number K n k1 k2 k3 k4 k5 k6 k7 k8 rule.WritesDeclared less = k2 less
by_number K n k1 k2 k3 k4 k5 k6 k7 k8 rule.CallsEntries less = k3 less
by_number K n k1 k2 k3 k4 k5 k6 k7 k8 rule.ReturnsToItsCall less = k4 less
by_number K n k1 k2 k3 k4 k5 k6 k7 k8 rule.HaltsDeclared less = k5 less
by_number K n k1 k2 k3 k4 k5 k6 k7 k8 rule.KeepsCode less = k6 less
by_number K n k1 k2 k3 k4 k5 k6 k7 k8 rule.ReadsListed less = k7 less
by_number K n k1 k2 k3 k4 k5 k6 k7 k8 rule.AssertionsHold less = k8 less

below : (P : Type 0) (m n : ℕ) → n ≤ m → m < n → P
below P m n high less = absurd (omega arith)

failed : (b : Bool) (P : Type 0) → b ≡ false → Decides b P → P → ⊥
failed b P is d p = false≢true (sym is ∙ d.1 p)

at_rule : (K : Rule → Type 0) (first failing : Rule) → Some first ≡ Some failing → Least K first → Least K failing
at_rule K first failing is least = let same : first ≡ failing = cc in subst (λ (x : Rule). Least K x) same least

least_by : (K : Rule → Type 0) (b w c r h l a : Bool) → Decides b (K rule.StaysInBody) → Decides w (K rule.WritesDeclared) → Decides c (K rule.CallsEntries) → Decides r (K rule.ReturnsToItsCall) →
    Decides h (K rule.HaltsDeclared) → K rule.KeepsCode → Decides l (K rule.ReadsListed) → Decides a (K rule.AssertionsHold) → (failing : Rule) → chain b w c r h l a ≡ Some failing → Least K failing
least_by K false w c r h l a k1 k2 k3 k4 k5 k6 k7 k8 failing is = at_rule K rule.StaysInBody failing is (record {
  broken = failed false (K rule.StaysInBody) refl k1;
  least = by_number K 1 (λ x. below _ 1 1 (omega arith) x) (λ x. below _ 2 1 (omega arith) x) (λ x. below _ 3 1 (omega arith) x) (λ x. below _ 4 1 (omega arith) x) (λ x. below _ 5 1 (omega arith) x) (λ x. below _ 6 1 (omega arith) x) (λ x. below _ 7 1 (omega arith) x) (λ x. below _ 8 1 (omega arith) x);
})
least_by K true false c r h l a k1 k2 k3 k4 k5 k6 k7 k8 failing is = at_rule K rule.WritesDeclared failing is (record {
  broken = failed false (K rule.WritesDeclared) refl k2;
  least = by_number K 2 (λ x. k1.0 refl) (λ x. below _ 2 2 (omega arith) x) (λ x. below _ 3 2 (omega arith) x) (λ x. below _ 4 2 (omega arith) x) (λ x. below _ 5 2 (omega arith) x) (λ x. below _ 6 2 (omega arith) x) (λ x. below _ 7 2 (omega arith) x) (λ x. below _ 8 2 (omega arith) x);
})
least_by K true true false r h l a k1 k2 k3 k4 k5 k6 k7 k8 failing is = at_rule K rule.CallsEntries failing is (record {
  broken = failed false (K rule.CallsEntries) refl k3;
  least = by_number K 3 (λ x. k1.0 refl) (λ x. k2.0 refl) (λ x. below _ 3 3 (omega arith) x) (λ x. below _ 4 3 (omega arith) x) (λ x. below _ 5 3 (omega arith) x) (λ x. below _ 6 3 (omega arith) x) (λ x. below _ 7 3 (omega arith) x) (λ x. below _ 8 3 (omega arith) x);
})
least_by K true true true false h l a k1 k2 k3 k4 k5 k6 k7 k8 failing is = at_rule K rule.ReturnsToItsCall failing is (record {
  broken = failed false (K rule.ReturnsToItsCall) refl k4;
  least = by_number K 4 (λ x. k1.0 refl) (λ x. k2.0 refl) (λ x. k3.0 refl) (λ x. below _ 4 4 (omega arith) x) (λ x. below _ 5 4 (omega arith) x) (λ x. below _ 6 4 (omega arith) x) (λ x. below _ 7 4 (omega arith) x) (λ x. below _ 8 4 (omega arith) x);
})
least_by K true true true true false l a k1 k2 k3 k4 k5 k6 k7 k8 failing is = at_rule K rule.HaltsDeclared failing is (record {
  broken = failed false (K rule.HaltsDeclared) refl k5;
  least = by_number K 5 (λ x. k1.0 refl) (λ x. k2.0 refl) (λ x. k3.0 refl) (λ x. k4.0 refl) (λ x. below _ 5 5 (omega arith) x) (λ x. below _ 6 5 (omega arith) x) (λ x. below _ 7 5 (omega arith) x) (λ x. below _ 8 5 (omega arith) x);
})
least_by K true true true true true false a k1 k2 k3 k4 k5 k6 k7 k8 failing is = at_rule K rule.ReadsListed failing is (record {
  broken = failed false (K rule.ReadsListed) refl k7;
  least = by_number K 7 (λ x. k1.0 refl) (λ x. k2.0 refl) (λ x. k3.0 refl) (λ x. k4.0 refl) (λ x. k5.0 refl) (λ x. k6) (λ x. below _ 7 7 (omega arith) x) (λ x. below _ 8 7 (omega arith) x);
})
least_by K true true true true true true false k1 k2 k3 k4 k5 k6 k7 k8 failing is = at_rule K rule.AssertionsHold failing is (record {
  broken = failed false (K rule.AssertionsHold) refl k8;
  least = by_number K 8 (λ x. k1.0 refl) (λ x. k2.0 refl) (λ x. k3.0 refl) (λ x. k4.0 refl) (λ x. k5.0 refl) (λ x. k6) (λ x. k7.0 refl) (λ x. below _ 8 8 (omega arith) x);
})
least_by K true true true true true true true k1 k2 k3 k4 k5 k6 k7 k8 failing is = cc

body_decides : (b : Bool) (d : Declaration) (s : State) (ks : Calls) → Decides b ((d.body (current ks) s.pc ≡ true) × IsSupported (instruction d.profile s)) → Decides b (StaysInBody d s ks)
body_decides b d s ks t = (λ h. record { in_body = (t.0 h).0; supported = (t.0 h).1 }, λ p. t.1 (p.in_body, p.supported))

least_broken_by : (image : Image) (d : Declaration) (s : State) (ks : Calls) → KeepsCode image d s.memory → (t : Tests d (instruction d.profile s) s ks) →
    (failing : Rule) → chain t.b t.w t.c t.r t.h t.l t.a ≡ Some failing → IsLeastBroken image d s ks failing
least_broken_by image d s ks code t failing is =
    let least : Least (λ r. Keeps r image d s ks) failing = least_by (λ r. Keeps r image d s ks) t.b t.w t.c t.r t.h t.l t.a (body_decides t.b d s ks t.stays) t.writes t.calls t.returns t.halts code t.reads t.asserts failing is in
    record { broken = least.broken; least = least.least }

-- a word of group 2 is the one at the program counter
own_word : (p : Profile) (s : State) (w : ℕ) → instruction p s ≡ Group2 w → w ≡ s.memory s.pc
own_word p s w is =
    let same : Group2 w ≡ Group2 (s.memory s.pc) = sym is ∙ group2_meaning p s.pc (s.memory s.pc) (ap kind_of is) in
    cc

-- what the tests of the next step say
pub kept_legal : (image : Image) (d : Declaration) (s : State) (ks : Calls) → AreWords s.memory → KeepsCode image d s.memory →
    least_broken d (fetched d.profile s) s ks ≡ None → IsLegal image d s ks
kept_legal image d s ks words code is =
    let t : Tests d (instruction d.profile s) s ks = tests d (instruction d.profile s) s ks words (own_word d.profile s) in
    legal_by image d s ks code t (sym t.is ∙ is)

pub first_broken : (image : Image) (d : Declaration) (s : State) (ks : Calls) (failing : Rule) → AreWords s.memory → KeepsCode image d s.memory →
    least_broken d (fetched d.profile s) s ks ≡ Some failing → IsLeastBroken image d s ks failing
first_broken image d s ks failing words code is =
    let t : Tests d (instruction d.profile s) s ks = tests d (instruction d.profile s) s ks words (own_word d.profile s) in
    least_broken_by image d s ks code t failing (sym t.is ∙ is)

-- what is found of an instruction in the running routine's body
pub found_in_body : (d : Declaration) (p : Profile) (s : State) (ks : Calls) (i : DecodedInstruction) (inside : Bool) (broken : Option Rule) (holds : Bool) → p ≡ d.profile → i ≡ fetched p s →
    inside ≡ d.body (current ks) s.pc → inside ≡ true → broken ≡ broken_by d i s.pc (current ks) s.memory ks → holds ≡ assertions_hold d i s ks → least_broken d (fetched d.profile s) s ks ≡ then_asserted broken holds
found_in_body d p s ks i inside broken holds profile is there on says asserts =
    let in_it : d.body (current ks) s.pc ≡ true = sym there ∙ on in
    let same : i ≡ fetched d.profile s = rw profile at is in
    rw (in_it, ← same, ← says, ← asserts) refl

-- where nothing is asserted
none_by : (rs : List ReturnAssertion) (e o : ℕ) (s : State) → rs ≡ [] → EachHoldsBy rs e o s
none_by [] e o s none = tt
none_by (r ∷ rs) e o s none = cc

none_at : (hs : List PlaceAssertion) (s : State) → hs ≡ [] → EachHolds hs s
none_at [] s none = tt
none_at (h ∷ hs) s none = cc

none_returns : (d : Declaration) (e : ℕ) (s : State) (ks : Calls) → d.returns ≡ [] → HoldsAtReturn d e s ks
none_returns d e s [] none = tt
none_returns d e s (k ∷ ks) none = λ same. none_by d.returns e (minus (s.memory e) k.after) s none

none_of : (d : Declaration) (m : Meaning) (s : State) (ks : Calls) → d.returns ≡ [] → ReturnsHold d m s ks
none_of d (Jmp i c) s ks none = λ on entry. none_returns d c s ks none
none_of d _ s ks none = tt

pub unasserted : UnassertedHolds
unasserted d m s ks holds returns = record { places = none_at d.holds s holds; returns = none_of d m s ks returns }
