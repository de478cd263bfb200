-- The conditions that a certificate must meet, each asked at an address, of all facts there and of all words possible by them.
use Rattle.std.specs.Prelude.{◌≡◌, ℕ, ◌<◌, ◌≤◌, Bool, true, false, ◌⊎◌, Some, None, List, [], ◌∷◌}
use Rattle.instruct.specs.Instructions.{Meaning, Jms, Jmp, meaning_of}
use Rattle.wordset.specs.Words.{plus, some_below, has_some, how_many, IsWithin}
use Rattle.processor.specs.Machine.{steps_pointer}
use Rattle.declaration.specs.Declaration.{Routine}
use Rattle.policy.specs.Rules.{IsSupported, HaltsDeclared}
use Rattle.domain.specs.Facts.{Fact, Rules, OfEquations, OfSums, last_site}
use Rattle.transfer.specs.References.{possible, targets}
use Rattle.transfer.specs.Operations.{outcomes_of}
use Rattle.facts.specs.Conditions.{WritesAreDeclared, EntriesAreKept, WritesAreListed, ReadsAreListed, EachIsHeld, EachIsHeldBy}
use Rattle.facts.specs.Starts.{start_fact}
use Rattle.certificate_lines.specs.Certificate.{Certificate, writes_of, claimed, has_exits}
use Rattle.judge.specs.Landing.{Case, place_in, asked, asked_at, exits_of, LandsAt, LandsAtExit, SuccessorLands, EachSuccessor, called_from, LandsAfter}
use Rattle.judge.specs.ConditionOrder.{is_first_condition, order}
use Rattle.facts.specs.declared.Condition.{Condition}
use Rattle.facts.specs.declared.Condition.TheVariants.{V1, V2, V3, V4, V5, V6, V7, V8, V9, V10, V11, V12, V13, V14, V15, V16}

-- Each fact of the list has the property.
abbrev pub EachFact : (Fact → Type 0) → List Fact → Type 0
EachFact p [] = Unit {0}
EachFact p (f ∷ fs) = p f × EachFact p fs

-- A fact in main has no sites and no offsets.
pub record IsOfMain (f : Fact) : Type 0 where
  pub sites : has_some f.sites ≡ false
  pub offsets : some_below 64 f.offsets ≡ false

-- A fact in a routine has some offset; and some site, by the rules of sums. By those of equations a routine that is called from
-- nowhere may have facts.
abbrev pub HasSites : Rules → Fact → Type 0
HasSites OfSums f = has_some f.sites ≡ true
HasSites OfEquations f = Unit {0}

-- A fact in a routine has some sites and offsets, by the rules.
pub record IsOfRoutine (rules : Rules) (f : Fact) : Type 0 where
  pub sites : HasSites rules f
  pub offsets : some_below 64 f.offsets ≡ true

-- The fact is in main's body, or in that of a listed routine, with sites and offsets as it must have there.
abbrev pub IsPlaced : Case → ℕ → Fact → Type 0
IsPlaced j a f =
    ((j.declaration.body None a ≡ true) × IsOfMain f) ⊎
    ((e : ℕ) × (j.declaration.body (Some e) a ≡ true) × (j.certificate.listed e ≡ true) × IsOfRoutine j.certificate.rules f)

-- The lines at an address are where they may be.
pub record LinesArePlaced (j : Case) (a : ℕ) : Type 0 where
  pub facts : EachFact (IsPlaced j a) (j.certificate.facts a)
  pub routine : j.certificate.listed a ≡ true → j.declaration.entry a ≡ true
  pub exits : has_exits j.certificate a ≡ true → j.declaration.entry a ≡ true

-- Each target of a JMS passes.
abbrev pub EachTarget : Case → Routine → Fact → Meaning → (ℕ → Type 0) → Type 0
EachTarget j r f (Jms i c) p = (e : ℕ) → e < 4096 → targets (place_in j r) i c f e ≡ true → p e
EachTarget j r f _ p = Unit {0}

-- A JMS is not through an auto-index cell.
abbrev pub KeepsPointer : Meaning → Type 0
KeepsPointer (Jms i c) = steps_pointer i c ≡ false
KeepsPointer _ = Unit {0}

-- In a routine the callee's rank is lower; main may call any.
abbrev pub IsLower : Certificate → Routine → ℕ → Type 0
IsLower c None e = Unit {0}
IsLower c (Some r) e = c.rank e < c.rank r

-- The target is an entry that has a routine line, of lower rank.
pub record MayCall (j : Case) (r : Routine) (e : ℕ) : Type 0 where
  pub entry : j.declaration.entry e ≡ true
  pub listed : j.certificate.listed e ≡ true
  pub lower : IsLower j.certificate r e

-- In a routine the callee's written set and entry are in the caller's written set, and the caller's entry is not in the
-- callee's.
pub record Covers (c : Certificate) (r e : ℕ) : Type 0 where
  pub writes : IsWithin (c.writes e) (c.writes r)
  pub entry : c.writes r e ≡ true
  pub own : c.writes e r ≡ false

-- If the caller is a routine, what its callee may write, and the callee's entry, are in its written set, and its own
-- entry is not in the callee's. Of main none of this is asked.
abbrev pub CoversCallee : Certificate → Routine → ℕ → Type 0
CoversCallee c None e = Unit {0}
CoversCallee c (Some r) e = Covers c r e

-- The address is a site of the callee, and not past the last that may be one.
abbrev pub IsSite : Certificate → ℕ → ℕ → Type 0
IsSite c a e = (c.sites e a ≡ true) × (a ≤ last_site c.rules)

-- The routine may return by an offset of the fact: it is declared, and the fact lands among the exits for it.
abbrev pub MayReturn : Case → ℕ → Fact → ℕ → Type 0
MayReturn j e f o = (j.declaration.offset e o ≡ true) × LandsAtExit j e o f

-- A JMP I through an entry is the entry's routine's own return.
abbrev pub ReturnsWell : Case → Routine → Fact → Meaning → Type 0
ReturnsWell j r f (Jmp i c) =
    i ≡ true → j.declaration.entry c ≡ true →
    (r ≡ Some c) × ((o : ℕ) → o < 64 → f.offsets o ≡ true → MayReturn j c f o)
ReturnsWell j r f _ = Unit {0}

-- What a condition asks of a word of this meaning, by a fact at an address in a routine's body.
abbrev pub HoldsFor : Case → Condition → Routine → ℕ → Fact → Meaning → Type 0
HoldsFor j V1 r a f m = Unit {0}
HoldsFor j V2 r a f m = Unit {0}
HoldsFor j V3 r a f m = IsSupported m
HoldsFor j V4 r a f m = EachSuccessor (SuccessorLands j r m) (outcomes_of (place_in j r) f a m)
HoldsFor j V5 r a f m = WritesAreDeclared (place_in j r) f m
HoldsFor j V6 r a f m = WritesAreListed (place_in j r) (writes_of j.certificate r) f m
HoldsFor j V7 r a f m = KeepsPointer m × EachTarget j r f m (λ e. MayCall j r e)
HoldsFor j V8 r a f m = EachTarget j r f m (λ e. CoversCallee j.certificate r e)
HoldsFor j V9 r a f m = EachTarget j r f m (λ e. IsSite j.certificate a e)
HoldsFor j V10 r a f m = EachTarget j r f m (λ e. LandsAt j (Some e) (plus e 1) (called_from a f))
HoldsFor j V11 r a f m = EachTarget j r f m (λ e. LandsAfter j r a e f)
HoldsFor j V12 r a f m = ReturnsWell j r f m
HoldsFor j V13 r a f m = HaltsDeclared j.declaration m a
HoldsFor j V14 r a f m = EntriesAreKept (place_in j r) f m
HoldsFor j V15 r a f m = ReadsAreListed (place_in j r) f m
HoldsFor j V16 r a f m = EachIsHeld (place_in j r) f a j.declaration.holds

-- A condition holds for each word that is possible by a fact at the address.
abbrev pub HoldsForWords : Case → Condition → Routine → ℕ → Fact → Type 0
HoldsForWords j v r a f =
    (w : ℕ) → w < 4096 → possible (place_in j r) f a w ≡ true →
    HoldsFor j v r a f (meaning_of j.declaration.profile a w)

-- A property of each fact for which conditions are checked at the address, in the routine whose body has
-- it.
abbrev pub OfEachFact : Case → ℕ → (Routine → Fact → Type 0) → Type 0
OfEachFact j a p = (r : Routine) → j.declaration.body r a ≡ true → EachFact (p r) (asked_at j r a)

-- By each fact at most 64 words are possible.
abbrev pub HasFewWords : Case → ℕ → Type 0
HasFewWords j a = OfEachFact j a (λ r f. how_many 4096 (possible (place_in j r) f a) ≤ 64)

-- A condition holds for each fact at the address and each word that is possible by it.
abbrev pub HoldsForEach : Case → Condition → ℕ → Type 0
HoldsForEach j v a = OfEachFact j a (λ r f. HoldsForWords j v r a f)

-- By each exit of the routine of an entry, for which conditions are checked, all is so that is to hold when it returns
-- so.
abbrev pub ExitsAreHeld : Case → ℕ → Type 0
ExitsAreHeld j e =
    (o : ℕ) → o < 64 →
    EachFact (λ x. EachIsHeldBy (place_in j (Some e)) x e o j.declaration.returns) (asked j.certificate.rules j.image (exits_of j e o))

-- What a condition asks at an address.
abbrev pub HoldsAt : Case → Condition → ℕ → Type 0
HoldsAt j V1 a = LandsAt j None a (start_fact j.image)
HoldsAt j V2 a = LinesArePlaced j a
HoldsAt j V3 a = HasFewWords j a × HoldsForEach j V3 a
HoldsAt j V4 a = HoldsForEach j V4 a
HoldsAt j V5 a = HoldsForEach j V5 a
HoldsAt j V6 a = HoldsForEach j V6 a
HoldsAt j V7 a = HoldsForEach j V7 a
HoldsAt j V8 a = HoldsForEach j V8 a
HoldsAt j V9 a = HoldsForEach j V9 a
HoldsAt j V10 a = HoldsForEach j V10 a
HoldsAt j V11 a = HoldsForEach j V11 a
HoldsAt j V12 a = HoldsForEach j V12 a
HoldsAt j V13 a = HoldsForEach j V13 a
HoldsAt j V14 a = HoldsForEach j V14 a
HoldsAt j V15 a = HoldsForEach j V15 a
HoldsAt j V16 a = HoldsForEach j V16 a × ExitsAreHeld j a

-- The first condition is asked at the start, the others at each line's address.
abbrev pub IsAskedAs : Bool → Case → ℕ → Type 0
IsAskedAs true j a = a ≡ j.declaration.start
IsAskedAs false j a = (a < 4096) × (claimed j.certificate a ≡ true)

-- Where a condition is asked.
abbrev pub IsAsked : Case → Condition → ℕ → Type 0
IsAsked j v a = IsAskedAs (is_first_condition v) j a

-- Every condition holds wherever it is asked.
abbrev pub IsValid : Case → Type 0
IsValid j = (v : Condition) (a : ℕ) → IsAsked j v a → HoldsAt j v a

-- The condition fails at the address, and all that are asked before it hold.
pub record IsFirst (j : Case) (v : Condition) (a : ℕ) : Type 0 where
  pub asked : IsAsked j v a
  pub fails : HoldsAt j v a → ⊥
  pub before : (u : Condition) (b : ℕ) → IsAsked j u b → order u b < order v a → HoldsAt j u b
