-- Sums as lists of summands, gone through term by term.
use Rattle.std.proofs.Common.{◌≡◌, ℕ, suc, ◌+◌, ◌%◌, ◌<◌, ◌≤◌, ◌==◌, Bool, true, false, ◌&&◌, List, [], ◌∷◌, ◌++◌, take, drop, get_or, length, refl, sym, ap, ◌∙◌, append_assoc, arith, length-append, length-drop}
use Rattle.std.specs.Prelude.{if◌then◌else◌, not, filter}
use Rattle.std.proofs.Math.ListN.{drop_of_length-le}
use Rattle.std.proofs.lemmas.List.{at_drop_more, drop_more, length-map, length-take}
use Rattle.domain.specs.Terms.{Term, Summand, with_coefficient, with_summand, same_term, term_is_before, same_sum}
use Rattle.domain.specs.Terms as said
use Rattle.domain.specs.declared.terms.Sum.{Sum}
use Rattle.domain.specs.InCode.{summand_of, sum_of}

-- There is room for one more of what is left.
pub room_left : {A : Type 0} (made rest begun gone : List A) → made ++ rest ≡ begun ++ gone → length begun + length gone ≤ 4 → 0 < length rest → length made < 4
room_left made rest begun gone e fits some =
    let lengths : length (made ++ rest) ≡ length (begun ++ gone) = ap length e in
    omega (arith, length-append made rest, length-append begun gone)

-- Some element is left.
pub one_left : {A : Type 0} (xs : List A) (i : ℕ) → i < length xs → 0 < length (drop i xs)
one_left xs i h = omega (arith, length-drop i xs)

-- Nothing is left.
pub none_left : {A : Type 0} {B : Type 0} (F : List A → B) (xs : List A) (i : ℕ) → length xs ≤ i → F (drop i xs) ≡ F []
none_left F xs i h = ap F (drop_of_length-le xs {i = i} h)

passes_first : {A : Type 0} (p : A → Bool) (y : A) (ys : List A) → p y ≡ true → 0 < length (filter p (y ∷ ys))
passes_first p y ys e = rw e (omega arith)

-- One that passes is left.
pub some_left : {A : Type 0} (p : A → Bool) (xs : List A) (i : ℕ) (x d : A) → i < length xs → x ≡ get_or xs i d → p x ≡ true → 0 < length (filter p (drop i xs))
some_left p xs i x d lt is passes =
    let there : p (get_or xs i d) ≡ true = ap p (sym is) ∙ passes in
    let first : 0 < length (filter p (get_or xs i d ∷ drop (i + 1) xs)) = passes_first p (get_or xs i d) (drop (i + 1) xs) there in
    rw (at_drop_more (filter p) xs i d lt) first

-- Those that pass and those that do not are all.
pub both_filters : {A : Type 0} (p : A → Bool) (xs : List A) → length (filter p xs) + length (filter (λ x. not (p x)) xs) ≡ length xs
both_filters p [] = refl
both_filters p (x ∷ xs) = go (p x) (both_filters p xs)
  where
    go : (b : Bool) → length (filter p xs) + length (filter (λ y. not (p y)) xs) ≡ length xs →
        length (if b then x ∷ filter p xs else filter p xs) + length (if not b then x ∷ filter (λ y. not (p y)) xs else filter (λ y. not (p y)) xs) ≡ length (x ∷ xs)
    go true rest = omega (arith, rest)
    go false rest = omega (arith, rest)

-- A sum has at most four terms.
pub sum_few : (s : Sum) → length (sum_of s) ≤ 4
sum_few s = omega (arith, length-map (take s.count s.summands) summand_of, length-take s.count s.summands, s.few)

-- Sums of different lengths differ.
pub apart_lengths : (a b : said.Sum) → (length a ≡ length b → ⊥) → false ≡ same_sum a b
apart_lengths [] [] n = absurd (n refl)
apart_lengths [] (t ∷ ts) n = refl
apart_lengths (s ∷ ss) [] n = refl
apart_lengths (s ∷ ss) (t ∷ ts) n = go (s.coefficient == t.coefficient) (same_term s.term t.term) (apart_lengths ss ts (λ e. n (ap suc e)))
  where
    go : (p q : Bool) → false ≡ same_sum ss ts → false ≡ (p && (q && same_sum ss ts))
    go true true rest = rest
    go true false rest = refl
    go false q rest = refl

in_front : (c : ℕ) (t : Term) (rest : said.Sum) → with_coefficient c t [] ++ rest ≡ with_coefficient c t rest
in_front c t rest = go (c == 0)
  where
    go : (b : Bool) → (if b then [] else record { coefficient = c; term = t } ∷ []) ++ rest ≡ (if b then rest else record { coefficient = c; term = t } ∷ rest)
    go true = refl
    go false = refl

small_stays : (c : ℕ) → c < 4096 → c % 4096 ≡ c
small_stays c h = omega arith

before_first : (c : ℕ) (t : Term) (y : Summand) (ys : said.Sum) → same_term t y.term ≡ false → term_is_before t y.term ≡ true → c < 4096 →
    with_summand c t (y ∷ ys) ≡ with_coefficient c t (y ∷ ys)
before_first c t y ys other first small = rw (other, first) (ap (λ k. with_coefficient k t (y ∷ ys)) (small_stays c small))

-- A term that stands before all that are left.
pub put_before : (c : ℕ) (t : Term) (xs made more all : said.Sum) (i : ℕ) (y d : Summand) → i < length xs → y ≡ get_or xs i d → same_term t y.term ≡ false → term_is_before t y.term ≡ true →
    c < 4096 → more ≡ made ++ with_coefficient c t [] → made ++ with_summand c t (drop i xs) ≡ all → more ++ drop i xs ≡ all
put_before c t xs made more all i y d lt is other first small e before =
    let y_other : same_term t (get_or xs i d).term ≡ false = ap (λ (s : Summand). same_term t s.term) (sym is) ∙ other in
    let y_first : term_is_before t (get_or xs i d).term ≡ true = ap (λ (s : Summand). term_is_before t s.term) (sym is) ∙ first in
    let rest : with_summand c t (drop i xs) ≡ with_coefficient c t (drop i xs) =
    at_drop_more (with_summand c t) xs i d lt ∙ before_first c t (get_or xs i d) (drop (i + 1) xs) y_other y_first small
    ∙ ap (λ (r : said.Sum). with_coefficient c t r) (sym (drop_more xs i d lt)) in
    ap (λ (m : said.Sum). m ++ drop i xs) e ∙ append_assoc made (with_coefficient c t []) (drop i xs) ∙ ap (λ (r : said.Sum). made ++ r) (in_front c t (drop i xs) ∙ sym rest) ∙ before

-- A term that stands behind all others.
pub put_last : (c : ℕ) (t : Term) (xs made more all : said.Sum) (i : ℕ) → length xs ≤ i → c < 4096 → more ≡ made ++ with_coefficient c t [] →
    made ++ with_summand c t (drop i xs) ≡ all → more ≡ all
put_last c t xs made more all i past small e before =
    e ∙ ap (λ (r : said.Sum). made ++ r) (ap (λ k. with_coefficient k t []) (sym (small_stays c small)) ∙ sym (none_left (with_summand c t) xs i past)) ∙ before
