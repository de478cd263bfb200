-- What is left to one name when a fact is told something.
use Rattle.std.proofs.Common.{◌≡◌, ℕ, ◌*◌, ◌%◌, ◌<◌, ◌≤◌, ◌==◌, true, false, ◌&&◌, List, [], ◌∷◌, length, map, drop, refl, sym, ap, ◌∙◌, arith, inl, inr}
use Rattle.std.specs.Prelude.{flat_map}
use Rattle.std.proofs.Math.Path.{fun_ext}
use Rattle.std.proofs.Math.ListN.{drop_of_length-le}
use Rattle.std.proofs.lemmas.Bool.{eq-eqb, cases_Bool, cases_lt}
use Rattle.wordset.specs.Words.{Words, some_below, plus, meet}
use Rattle.wordset.specs.Lanes.{words}
use Rattle.wordset.proofs.SetLemmas.{words_past}
use Rattle.processor.specs.Runs.{Image}
use Rattle.domain.specs.Locations.{Location, Ac, Cell, same, tape_word}
use Rattle.domain.specs.Terms.{Term, Holding, Behind, Sum, sum_of_name, name_of_term}
use Rattle.domain.specs.Facts.{Fact, Relation, OfSums}
use Rattle.domain.specs.Adding.{with_name, with_term_in, with_shape_in, adding, adding_all}
use Rattle.domain.specs.Narrowing.{of_term, of_part, may_give, parts_of_chain}
use Rattle.domain.specs.Chains.{Chain}
use Rattle.domain.specs.ChainsInCode.{met_with_found}
use Rattle.domain.specs.InCode.{summand_at}
use Rattle.domain.proofs.PartLemmas.{name_added, part_one}
use Rattle.domain.proofs.SumLemmas.{same_name}

same_once : (n : Location) → same n n ≡ true
same_once Ac = refl
same_once (Cell a) = eq-eqb a a refl

-- What is told of the name itself is met with its set.
pub told_here : (f : Fact) (n m : Location) (lanes : List ℕ) (s p : Words) → same n m ≡ true → words lanes ≡ f.set n → p ≡ meet (words lanes) s →
    p ≡ (adding OfSums (record { sum = sum_of_name m; set = s }) f).set n
told_here f n m lanes s p e h q =
    let past : (v : ℕ) → 4096 ≤ v → f.set n v ≡ false = λ v far. sym (ap (λ (x : Words). x v) h) ∙ words_past lanes v far in
    let own : meet (f.set n) s ≡ (with_name n (meet (f.set n) s) f).set n = rw (same_once n) refl in
    q ∙ ap (λ (x : Words). meet x s) h ∙ own ∙ ap (λ (g : Fact). g.set n) (name_added f n s (meet (f.set n) s) past refl)
    ∙ ap (λ (k : Location). (adding OfSums (record { sum = sum_of_name k; set = s }) f).set n) (same_name n m e)

-- What is told of another name leaves it alone.
pub told_of_other : (f : Fact) (n m : Location) (s : Words) → same n m ≡ false → f.set n ≡ (adding OfSums (record { sum = sum_of_name m; set = s }) f).set n
told_of_other f n m s e = rw e refl

-- The same of a term.
pub term_of_other : (image : Image) (c : ℕ) (t : Term) (set : Words) (f : Fact) (n : Location) → same n (name_of_term t) ≡ false →
    f.set n ≡ (adding OfSums (of_term image c t set) f).set n
term_of_other image c (Holding m) set f n e = told_of_other f n m (λ v. set ((c * v) % 4096)) e
term_of_other image c (Behind x k) set f n e = told_of_other f n (Cell x) (λ v. some_below 4096 (λ w. tape_word (image (plus v k)) w && set ((c * w) % 4096))) e

-- A part of one term leaves another name alone.
pub part_of_other : (image : Image) (set : Words) (f : Fact) (n : Location) (xs : Sum) → length xs ≡ 1 → same n (name_of_term (summand_at xs 0).term) ≡ false →
    (adding_all OfSums (of_part image xs set) f).set n ≡ f.set n
part_of_other image set f n xs one e =
    sym (term_of_other image (summand_at xs 0).coefficient (summand_at xs 0).term set f n e ∙ ap (λ (g : Fact). g.set n) (part_one image set f xs one))

-- ---- a sum that is spelled as one of the shapes

pub shape_not_one : (f : Fact) (n : Location) (set : Words) (xs : Sum) → (length xs ≡ 1 → ⊥) → f.set n ≡ (with_shape_in OfSums xs set f).set n
shape_not_one f n set [] h = refl
shape_not_one f n set (x ∷ []) h = absurd (h refl)
shape_not_one f n set (x ∷ y ∷ ys) h = refl

pub shape_of_one : (f : Fact) (n : Location) (set : Words) (xs : Sum) → length xs ≡ 1 → (with_term_in (summand_at xs 0).term set f).set n ≡ (with_shape_in OfSums xs set f).set n
shape_of_one f n set [] h = absurd (omega (arith, h))
shape_of_one f n set (x ∷ []) h = refl
shape_of_one f n set (x ∷ y ∷ ys) h = absurd (omega (arith, h))

pub met_here : (f : Fact) (n m : Location) (s p q : Words) → same n m ≡ true → p ≡ f.set n → q ≡ meet p s → q ≡ (with_term_in (Holding m) s f).set n
met_here f n m s p q e h k =
    k ∙ ap (λ (x : Words). meet x s) h ∙ ap (λ (y : Location). meet (f.set y) s) (same_name n m e) ∙ go
  where
    go : meet (f.set m) s ≡ (with_term_in (Holding m) s f).set n
    go = rw e refl

pub met_elsewhere : (f : Fact) (n m : Location) (s : Words) → same n m ≡ false → f.set n ≡ (with_term_in (Holding m) s f).set n
met_elsewhere f n m s e = rw e refl

-- ---- one thing told after the other

pub none_left : {A B : Type 0} (r : A → B) (p : B → List Relation) (xs : List A) (i : ℕ) (g all : Fact) → length xs ≤ i →
    adding_all OfSums (flat_map p (map r (drop i xs))) g ≡ all → g ≡ all
none_left r p xs i g all le e = ap (λ ys. adding_all OfSums (flat_map p (map r ys)) g) (sym (drop_of_length-le xs le)) ∙ e

-- ---- what a chain says

pub meet_below : (lanes : List ℕ) (s t : Words) → ((v : ℕ) → v < 4096 → s v ≡ t v) → meet (words lanes) s ≡ meet (words lanes) t
meet_below lanes s t h = fun_ext (λ v. elim (cases_lt v 4096) [
  | inl l ↦ ap (λ b. words lanes v && b) (h v l)
  | inr far ↦ ap (λ b. b && s v) (words_past lanes v far) ∙ sym (ap (λ b. b && t v) (words_past lanes v far))
])

pub chain_told : (f own : Fact) (d : Chain) (n : Location) (lanes : List ℕ) (cells accumulators p : Words) →
    ((v : ℕ) → v < 4096 → cells v ≡ some_below 4096 (λ w. some_below 2 (λ l. may_give own d v w l))) →
    ((w : ℕ) → w < 4096 → accumulators w ≡ some_below 4096 (λ v. some_below 2 (λ l. may_give own d v w l))) →
    words lanes ≡ f.set n → p ≡ met_with_found cells accumulators d.cell n (words lanes) → p ≡ (adding_all OfSums (parts_of_chain own d) f).set n
chain_told f own d Ac lanes cells accumulators p hc ha h q =
    let told : Words = λ w. some_below 4096 (λ v. some_below 2 (λ l. may_give own d v w l)) in
    let first : Fact = adding OfSums (record { sum = sum_of_name (Cell d.cell); set = λ v. some_below 4096 (λ w. some_below 2 (λ l. may_give own d v w l)) }) f in
    q ∙ meet_below lanes accumulators told ha ∙ told_here first Ac Ac lanes told (meet (words lanes) told) refl h refl
chain_told f own d (Cell a) lanes cells accumulators p hc ha h q =
    let told : Words = λ v. some_below 4096 (λ w. some_below 2 (λ l. may_give own d v w l)) in
    elim (cases_Bool (a == d.cell)) [
      | inl e ↦ q ∙ (rw e (meet_below lanes cells told hc)) ∙ told_here f (Cell a) (Cell d.cell) lanes told (meet (words lanes) told) e h refl
      | inr e ↦ q ∙ (rw e h) ∙ told_of_other f (Cell a) (Cell d.cell) told e
    ]
