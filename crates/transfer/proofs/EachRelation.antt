-- Relations that are gone through one by one: what each of them adds to a fact, or puts behind others.
use Rattle.std.proofs.Common.{◌≡◌, ℕ, zero, suc, ◌+◌, ◌<◌, ◌≤◌, Bool, true, false, List, [], ◌∷◌, ◌++◌, map, drop, get_or, length, refl, sym, ap, ◌∙◌, subst, append_assoc, arith}
use Rattle.std.specs.Prelude.{if◌then◌else◌, flat_map, filter}
use Rattle.std.proofs.Math.ListN.{drop_of_length-le}
use Rattle.std.proofs.lemmas.List.{at_drop_more}
use Rattle.domain.specs.Facts.{Relation, Fact, Rules}
use Rattle.domain.specs.Adding.{adding, adding_all}
use Rattle.transfer.specs.Shaped.{HaveFewTerms}

-- What two lists add is what the one adds, and then the other.
pub adding_append : (rules : Rules) (xs ys : List Relation) (f : Fact) → adding_all rules (xs ++ ys) f ≡ adding_all rules ys (adding_all rules xs f)
adding_append rules [] ys f = refl
adding_append rules (x ∷ xs) ys f = adding_append rules xs ys (adding rules x f)

-- One more of them has been added.
pub added_on : {A : Type 0} (rules : Rules) (h : A → Relation) (g : Relation → List Relation) (xs : List A) (i : ℕ) (x : A) (made more : Fact) → i < length xs → x ≡ get_or xs i x →
    more ≡ adding_all rules (g (h x)) made →
    adding_all rules (flat_map g (map h (drop (i + 1) xs))) more ≡ adding_all rules (flat_map g (map h (drop i xs))) made
added_on rules h g xs i x made more lt is e =
    ap (λ (m : Fact). adding_all rules (flat_map g (map h (drop (i + 1) xs))) m) e
    ∙ sym (adding_append rules (g (h x)) (flat_map g (map h (drop (i + 1) xs))) made)
    ∙ ap (λ y. adding_all rules (g (h y) ++ flat_map g (map h (drop (i + 1) xs))) made) is
    ∙ sym (at_drop_more (λ (os : List _). adding_all rules (flat_map g (map h os)) made) xs i x lt)

-- All of them have been added.
pub all_added_on : {A : Type 0} (rules : Rules) (h : A → Relation) (g : Relation → List Relation) (xs : List A) (i : ℕ) (made begun : Fact) → length xs ≤ i →
    adding_all rules (flat_map g (map h (drop i xs))) made ≡ begun → made ≡ begun
all_added_on rules h g xs i made begun past e =
    sym (ap (λ (os : List _). adding_all rules (flat_map g (map h os)) made) (drop_of_length-le xs {i = i} past)) ∙ e

-- What one more of them makes stands behind the others.
pub put_on : {A B C : Type 0} (h : A → B) (g : B → List C) (xs : List A) (i : ℕ) (x : A) (made more : List C) → i < length xs → x ≡ get_or xs i x →
    more ≡ made ++ g (h x) →
    more ++ flat_map g (map h (drop (i + 1) xs)) ≡ made ++ flat_map g (map h (drop i xs))
put_on h g xs i x made more lt is e =
    ap (λ (m : List _). m ++ flat_map g (map h (drop (i + 1) xs))) e
    ∙ append_assoc made (g (h x)) (flat_map g (map h (drop (i + 1) xs)))
    ∙ ap (λ y. made ++ (g (h y) ++ flat_map g (map h (drop (i + 1) xs)))) is
    ∙ sym (at_drop_more (λ (os : List _). made ++ flat_map g (map h os)) xs i x lt)

pub append_nothing : {A : Type 0} (xs : List A) → xs ++ [] ≡ xs
append_nothing [] = refl
append_nothing (x ∷ xs) = ap (λ (r : List _). x ∷ r) (append_nothing xs)

-- Each of the relations has at most three terms.
pub few_terms : {A : Type 0} (h : A → Relation) (xs : List A) (i : ℕ) (x : A) → i < length xs → x ≡ get_or xs i x → HaveFewTerms (map h xs) → length (h x).sum ≤ 3
few_terms h [] i x lt is t = absurd (omega arith)
few_terms h (y ∷ ys) zero x lt is t = subst (λ z. length (h z).sum ≤ 3) (sym is) t.0
few_terms h (y ∷ ys) (suc i) x lt is t = few_terms h ys i x (omega arith) is t.1

-- A filter of what a list makes, piece by piece.
pub filter_append : {A : Type 0} (p : A → Bool) (xs ys : List A) → filter p (xs ++ ys) ≡ filter p xs ++ filter p ys
filter_append p [] ys = refl
filter_append {A} p (x ∷ xs) ys = go (p x) (filter_append p xs ys)
  where
    go : (b : Bool) → filter p (xs ++ ys) ≡ filter p xs ++ filter p ys → (if b then x ∷ filter p (xs ++ ys) else filter p (xs ++ ys)) ≡ ((if b then x ∷ filter p xs else filter p xs) ++ filter p ys)
    go true h = ap (λ (r : List A). x ∷ r) h
    go false h = h

pub flat_append : {A B : Type 0} (g : A → List B) (xs ys : List A) → flat_map g (xs ++ ys) ≡ flat_map g xs ++ flat_map g ys
flat_append g [] ys = refl
flat_append g (x ∷ xs) ys = ap (λ (r : List _). g x ++ r) (flat_append g xs ys) ∙ sym (append_assoc (g x) (flat_map g xs) (flat_map g ys))

pub map_append : {A B : Type 0} (g : A → B) (xs ys : List A) → map g (xs ++ ys) ≡ map g xs ++ map g ys
map_append g [] ys = refl
map_append g (x ∷ xs) ys = ap (λ (r : List _). g x ∷ r) (map_append g xs ys)
