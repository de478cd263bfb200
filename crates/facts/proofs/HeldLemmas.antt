-- What is to hold, line by line.
use Rattle.std.proofs.Common.{◌≡◌, ℕ, ◌+◌, ◌<◌, ◌≤◌, ◌==◌, Bool, true, false, ◌&&◌, ◌||◌, List, [], ◌∷◌, map, drop, get_or, length, refl, sym, ap, ◌∙◌, subst, zero, suc, arith}
use Rattle.std.specs.Prelude.{Option, None, Some, IfNone, IfSome, IsTrue, ◌↔◌, MatchOption, nat_lt, not}
use Rattle.std.proofs.lemmas.Bool.{false≢true, true≢false}
use Rattle.std.proofs.lemmas.Bool.Decides.{nat_tests}
use Rattle.wordset.specs.Words.{Words, SameWords, IsFirstFrom, HasNoneFrom, difference, union}
use Rattle.domain.specs.Facts.{Fact, Place}
use Rattle.declaration.specs.Declaration.{Assertion, PlaceAssertion, ReturnAssertion}
use Rattle.std.proofs.Math.ListN.{drop_of_length-le}
use Rattle.transfer.proofs.EntailLemmas.{drop_item}
use Rattle.facts.specs.Conditions.{link_words, may_be, IsAsserted, IsDenied, EachIsHeld, EachIsHeldBy}

-- ---- links as words

of_first : (a b : Bool) → ((a && true) || (b && false)) ≡ a
of_first true b = refl
of_first false true = refl
of_first false false = refl

of_second : (a b : Bool) → ((a && false) || (b && true)) ≡ b
of_second true true = refl
of_second true false = refl
of_second false true = refl
of_second false false = refl

of_neither : (a b : Bool) → ((a && false) || (b && false)) ≡ false
of_neither true true = refl
of_neither true false = refl
of_neither false true = refl
of_neither false false = refl

links_are : (links : Words) (v : ℕ) → ((links 0 && (v == 0)) || (links 1 && (v == 1))) ≡ link_words links v
links_are links zero = of_first (links 0) (links 1)
links_are links (suc zero) = of_second (links 0) (links 1)
links_are links (suc (suc v)) =
    let first : (suc (suc v) == 0) ≡ false = grind (arith, nat_tests) in
    let second : (suc (suc v) == 1) ≡ false = grind (arith, nat_tests) in
    let past : nat_lt (suc (suc v)) 2 ≡ false = grind (arith, nat_tests) in
    rw (first, second, past) (of_neither (links 0) (links 1))

pub link_set : (links clear set both : Words) (a b : Bool) → both ≡ union clear set → clear ≡ (λ v. a && (v == 0)) → set ≡ (λ v. b && (v == 1)) → a ≡ links 0 → b ≡ links 1 → SameWords both (link_words links)
link_set links clear set both a b is is_clear is_set first second v lt = rw (is, is_clear, is_set, first, second) (links_are links v)

-- ---- one word that is denied

in_both : (a b : Bool) → (a && not b) ≡ true → (a ≡ true) × (b ≡ false)
in_both true false h = (refl, refl)
in_both true true h = absurd (false≢true h)
in_both false b h = absurd (false≢true h)

not_left : (a b : Bool) → (a && not b) ≡ false → a ≡ true → b ≡ true
not_left a true h has = refl
not_left true false h has = absurd (true≢false h)
not_left false false h has = absurd (false≢true has)

pub first_denied : (pl : Place) (f : Fact) (a : Assertion) (possible : Words) (w : ℕ) → SameWords possible (may_be pl f a.subject) → IsFirstFrom 0 (difference possible a.words) w → IsDenied pl f a w
first_denied pl f a possible w same first =
    let both = in_both (possible w) (a.words w) first.within in
    record { small = first.small; possible = sym (same w first.small) ∙ both.0; excluded = both.1 }

pub none_denied : (pl : Place) (f : Fact) (a : Assertion) (possible : Words) → SameWords possible (may_be pl f a.subject) → HasNoneFrom 0 (difference possible a.words) → IsAsserted pl f a
none_denied pl f a possible same none w lt has = not_left (possible w) (a.words w) (none w (omega arith) lt) (same w lt ∙ has)

pub denied_by : (pl : Place) (f : Fact) (a : Assertion) (possible rest : Words) (found : Option ℕ) → SameWords possible (may_be pl f a.subject) → rest ≡ difference possible a.words →
    MatchOption found (HasNoneFrom 0 rest) (λ w. IsFirstFrom 0 rest w) → IfSome found (IsDenied pl f a)
denied_by pl f a possible rest None same is found = tt
denied_by pl f a possible rest (Some w) same is found = first_denied pl f a possible w same (subst (λ (s : Words). IsFirstFrom 0 s w) is found)

pub none_by : (pl : Place) (f : Fact) (a : Assertion) (possible rest : Words) (found : Option ℕ) → SameWords possible (may_be pl f a.subject) → rest ≡ difference possible a.words →
    MatchOption found (HasNoneFrom 0 rest) (λ w. IsFirstFrom 0 rest w) → IfNone found (IsAsserted pl f a)
none_by pl f a possible rest None same is found = none_denied pl f a possible same (subst (λ (s : Words). HasNoneFrom 0 s) is found)
none_by pl f a possible rest (Some w) same is found = tt

-- an assertion is not so where a word is denied
pub denied_not : (pl : Place) (f : Fact) (a : Assertion) (w : ℕ) → IsDenied pl f a w → IsTrue false ↔ IsAsserted pl f a
denied_not pl f a w denied = (λ no. absurd (false≢true no), λ h. absurd (true≢false (sym (h w denied.small denied.possible) ∙ denied.excluded)))

-- ---- a line of a list

dropped : {A B : Type 0} (g : A → B) (xs : List A) (i : ℕ) (x : A) → i < length xs → x ≡ get_or xs i x → map g (drop i xs) ≡ g x ∷ map g (drop (i + 1) xs)
dropped g xs i x lt is = ap (λ ys. map g ys) (drop_item xs i x lt is)

past_all : {A B : Type 0} (g : A → B) (xs : List A) (i : ℕ) → length xs ≤ i → map g (drop i xs) ≡ []
past_all g xs i past = ap (λ ys. map g ys) (drop_of_length-le xs past)

module _ {A : Type 0} (g : A → PlaceAssertion) (pl : Place) (f : Fact) (a : ℕ) (xs : List A) (i : ℕ) where
  -- one that is held, or is not to hold there
  pub held_more : (x : A) → i < length xs → x ≡ get_or xs i x → ((g x).places a ≡ true → IsAsserted pl f (g x).assertion) →
      (EachIsHeld pl f a (map g (drop i xs)) ↔ EachIsHeld pl f a (map g xs)) → EachIsHeld pl f a (map g (drop (i + 1) xs)) ↔ EachIsHeld pl f a (map g xs)
  held_more x lt is one h = (
    λ rest. h.0 (subst (EachIsHeld pl f a) (sym (dropped g xs i x lt is)) (one, rest)),
    λ all. (subst (EachIsHeld pl f a) (dropped g xs i x lt is) (h.1 all)).1,
  )

  -- one that is not held
  pub held_not : (x : A) → i < length xs → x ≡ get_or xs i x → (((g x).places a ≡ true → IsAsserted pl f (g x).assertion) → ⊥) →
      (EachIsHeld pl f a (map g (drop i xs)) ↔ EachIsHeld pl f a (map g xs)) → IsTrue false ↔ EachIsHeld pl f a (map g xs)
  held_not x lt is one h = (
    λ no. absurd (false≢true no),
    λ all. absurd (one (subst (EachIsHeld pl f a) (dropped g xs i x lt is) (h.1 all)).0),
  )

  -- all of them
  pub held_all : length xs ≤ i → (EachIsHeld pl f a (map g (drop i xs)) ↔ EachIsHeld pl f a (map g xs)) → IsTrue true ↔ EachIsHeld pl f a (map g xs)
  held_all past h = (λ is. h.0 (subst (EachIsHeld pl f a) (sym (past_all g xs i past)) tt), λ all. refl)

module _ {A : Type 0} (g : A → ReturnAssertion) (pl : Place) (f : Fact) (e o : ℕ) (xs : List A) (i : ℕ) where
  pub returned_more : (x : A) → i < length xs → x ≡ get_or xs i x → ((g x).entry ≡ e → (g x).offsets o ≡ true → IsAsserted pl f (g x).assertion) →
      (EachIsHeldBy pl f e o (map g (drop i xs)) ↔ EachIsHeldBy pl f e o (map g xs)) → EachIsHeldBy pl f e o (map g (drop (i + 1) xs)) ↔ EachIsHeldBy pl f e o (map g xs)
  returned_more x lt is one h = (
    λ rest. h.0 (subst (EachIsHeldBy pl f e o) (sym (dropped g xs i x lt is)) (one, rest)),
    λ all. (subst (EachIsHeldBy pl f e o) (dropped g xs i x lt is) (h.1 all)).1,
  )

  pub returned_not : (x : A) → i < length xs → x ≡ get_or xs i x → (((g x).entry ≡ e → (g x).offsets o ≡ true → IsAsserted pl f (g x).assertion) → ⊥) →
      (EachIsHeldBy pl f e o (map g (drop i xs)) ↔ EachIsHeldBy pl f e o (map g xs)) → IsTrue false ↔ EachIsHeldBy pl f e o (map g xs)
  returned_not x lt is one h = (
    λ no. absurd (false≢true no),
    λ all. absurd (one (subst (EachIsHeldBy pl f e o) (dropped g xs i x lt is) (h.1 all)).0),
  )

  pub returned_all : length xs ≤ i → (EachIsHeldBy pl f e o (map g (drop i xs)) ↔ EachIsHeldBy pl f e o (map g xs)) → IsTrue true ↔ EachIsHeldBy pl f e o (map g xs)
  returned_all past h = (λ is. h.0 (subst (EachIsHeldBy pl f e o) (sym (past_all g xs i past)) tt), λ all. refl)

-- ---- whether a line asks something

pub not_there : {b : Bool} {P Q : Type 0} → (P → b ≡ true) → b ≡ false → IsTrue true ↔ (P → Q)
not_there has off = (λ t p. absurd (true≢false (sym (has p) ∙ off)), λ k. refl)

pub not_so : {b : Bool} {P : Type 0} → (IsTrue b ↔ P) → b ≡ false → P → ⊥
not_so told off p = false≢true (sym off ∙ told.1 p)
