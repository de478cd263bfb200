-- Lists of relations, gone through one by one.
use Rattle.std.proofs.Common.{◌≡◌, ℕ, zero, suc, ◌+◌, ◌<◌, ◌≤◌, Bool, true, false, ◌&&◌, List, [], ◌∷◌, ◌++◌, map, take, drop, get_or, length, refl, sym, ap, ◌∙◌, append_assoc, arith, inl, inr}
use Rattle.std.specs.Prelude.{if◌then◌else◌, slice_set, Some}
use Rattle.std.proofs.Math.ListN.{drop_of_length-le}
use Rattle.std.proofs.lemmas.List.{at_drop_more, take_more}
use Rattle.std.proofs.Math.Path.{fun_ext}
use Rattle.std.proofs.lemmas.Bool.{cases_lt}
use Rattle.wordset.specs.Words.{Words, meet, nothing, all_words, one, only}
use Rattle.wordset.proofs.SetLemmas.{lt_to, words_past}
use Rattle.wordset.specs.Lanes.{words}
use Rattle.domain.specs.Terms.{Sum, same_sum}
use Rattle.domain.specs.Facts.{Relation}
use Rattle.domain.specs.Adding.{with_relation, set_among}
use Rattle.domain.specs.Moves.{moved_relation, moved_relations}
use Rattle.domain.specs.RelationsInCode.{relation_at, IsFoundAt}

-- A list with another element at a place.
pub split : {A : Type 0} (xs : List A) (i : ℕ) (v : A) → i < length xs → slice_set xs i v ≡ take i xs ++ v ∷ drop (suc i) xs
split [] i v lt = absurd (omega arith)
split (x ∷ xs) zero v lt = refl
split (x ∷ xs) (suc i) v lt = ap (λ (r : List _). x ∷ r) (split xs i v (omega arith))

-- All are taken.
pub all_taken : {A : Type 0} (xs : List A) (i : ℕ) → length xs ≤ i → take i xs ≡ xs
all_taken [] zero h = refl
all_taken [] (suc i) h = refl
all_taken (x ∷ xs) zero h = absurd (omega arith)
all_taken (x ∷ xs) (suc i) h = ap (λ (r : List _). x ∷ r) (all_taken xs i (omega arith))

first_met : (sum : Sum) (set : Words) (r : Relation) (rs : List Relation) → same_sum r.sum sum ≡ true → with_relation sum set (r ∷ rs) ≡ record { sum = sum; set = meet r.set set } ∷ rs
first_met sum set r rs e = rw e refl

first_passed : (sum : Sum) (set : Words) (r : Relation) (rs : List Relation) → same_sum r.sum sum ≡ false → with_relation sum set (r ∷ rs) ≡ r ∷ with_relation sum set rs
first_passed sum set r rs e = rw e refl

-- The first relation of the sum is found.
pub found_at : (sum : Sum) (rs : List Relation) (i : ℕ) → i < length rs → same_sum (relation_at rs i).sum sum ≡ true →
    ((set : Words) → take i rs ++ with_relation sum set (drop i rs) ≡ with_relation sum set rs) → IsFoundAt sum rs i
found_at sum rs i lt same before = record {
  inside = lt;
  met = λ set.
      (let d : Relation = record { sum = []; set = nothing } in
      let here : with_relation sum set (drop i rs) ≡ record { sum = sum; set = meet (relation_at rs i).set set } ∷ drop (i + 1) rs =
      at_drop_more (with_relation sum set) rs i d lt ∙ first_met sum set (relation_at rs i) (drop (i + 1) rs) same in
      let next : i + 1 ≡ suc i = omega arith in
      sym (before set) ∙ ap (λ (r : List Relation). take i rs ++ r) (here ∙ ap (λ k. record { sum = sum; set = meet (relation_at rs i).set set } ∷ drop k rs) next)
      ∙ sym (split rs i (record { sum = sum; set = meet (relation_at rs i).set set }) lt));
}

-- The relation at a place is not of the sum.
pub passed_on : (sum : Sum) (rs : List Relation) (i : ℕ) → i < length rs → same_sum (relation_at rs i).sum sum ≡ false →
    ((set : Words) → take i rs ++ with_relation sum set (drop i rs) ≡ with_relation sum set rs) →
    (set : Words) → take (i + 1) rs ++ with_relation sum set (drop (i + 1) rs) ≡ with_relation sum set rs
passed_on sum rs i lt other before set =
    let d : Relation = record { sum = []; set = nothing } in
    let here : with_relation sum set (drop i rs) ≡ relation_at rs i ∷ with_relation sum set (drop (i + 1) rs) =
    at_drop_more (with_relation sum set) rs i d lt ∙ first_passed sum set (relation_at rs i) (drop (i + 1) rs) other in
    ap (λ (t : List Relation). t ++ with_relation sum set (drop (i + 1) rs)) (take_more rs i d lt)
    ∙ append_assoc (take i rs) (relation_at rs i ∷ []) (with_relation sum set (drop (i + 1) rs)) ∙ ap (λ (r : List Relation). take i rs ++ r) (sym here) ∙ before set

-- None is of the sum.
pub not_found : (sum : Sum) (rs : List Relation) (i : ℕ) → length rs ≤ i →
    ((set : Words) → take i rs ++ with_relation sum set (drop i rs) ≡ with_relation sum set rs) →
    (set : Words) → with_relation sum set rs ≡ rs ++ record { sum = sum; set = set } ∷ []
not_found sum rs i past before set =
    sym (before set) ∙ ap (λ (t : List Relation). t ++ with_relation sum set (drop i rs)) (all_taken rs i past)
    ∙ ap (λ (r : List Relation). rs ++ with_relation sum set r) (drop_of_length-le rs {i = i} past)

-- ---- the words that a list of parts allows

and_all : (lanes : List ℕ) (v : ℕ) → (words lanes v && all_words v) ≡ words lanes v
and_all lanes v = elim (cases_lt v 4096) [
  | inl l ↦ ap (λ b. words lanes v && b) (lt_to v l) ∙ right (words lanes v)
  | inr g ↦ ap (λ b. b && all_words v) (words_past lanes v g) ∙ sym (words_past lanes v g)
]
  where
    right : (b : Bool) → (b && true) ≡ b
    right true = refl
    right false = refl

-- What is left of a set when all parts of a list were met with it.
pub all_kept : {A B : Type 0} (xs : List A) (i : ℕ) (f : A → B) (allowed : List B → Words) → ((v : ℕ) → allowed [] v ≡ all_words v) → (lanes before : List ℕ) → length xs ≤ i →
    ((v : ℕ) → (words lanes v && allowed (map f (drop i xs)) v) ≡ (words before v && allowed (map f xs) v)) → words lanes ≡ meet (words before) (allowed (map f xs))
all_kept xs i f allowed none lanes before past inv = fun_ext (λ v.
    sym (ap (λ (r : List _). words lanes v && allowed (map f r) v) (drop_of_length-le xs {i = i} past) ∙ ap (λ b. words lanes v && b) (none v) ∙ and_all lanes v) ∙ inv v)

among_words : (sum : Sum) (rs : List Relation) (v : ℕ) → (all_words v && set_among sum rs v) ≡ set_among sum rs v
among_words sum [] v = twice (all_words v)
  where
    twice : (b : Bool) → (b && b) ≡ b
    twice true = refl
    twice false = refl
among_words sum (r ∷ rs) v =
    swap (all_words v) (if same_sum r.sum sum then r.set v else true) (set_among sum rs v) ∙ ap (λ p. (if same_sum r.sum sum then r.set v else true) && p) (among_words sum rs v)
  where
    swap : (p q r : Bool) → (p && (q && r)) ≡ (q && (p && r))
    swap true q r = refl
    swap false true r = refl
    swap false false r = refl

-- All words are met with what relations allow.
pub all_among : (sum : Sum) (rs : List Relation) → meet all_words (set_among sum rs) ≡ set_among sum rs
all_among sum rs = fun_ext (among_words sum rs)

-- One relation more has moved by a known word.
pub moved_on : {A : Type 0} (g : A → Relation) (cell by : ℕ) (xs : List A) (i : ℕ) (x : A) (made more : List Relation) → i < length xs → x ≡ get_or xs i x → only (one by) ≡ Some by →
    more ≡ made ++ moved_relation cell (one by) (Some by) (g x) →
    more ++ moved_relations cell (one by) (map g (drop (i + 1) xs)) ≡ made ++ moved_relations cell (one by) (map g (drop i xs))
moved_on g cell by xs i x made more lt is known e =
    let here : moved_relations cell (one by) (map g (drop i xs)) ≡ moved_relation cell (one by) (only (one by)) (g x) ++ moved_relations cell (one by) (map g (drop (i + 1) xs)) =
    at_drop_more (λ os. moved_relations cell (one by) (map g os)) xs i x lt ∙ ap (λ y. moved_relation cell (one by) (only (one by)) (g y) ++ moved_relations cell (one by) (map g (drop (i + 1) xs))) (sym is) in
    ap (λ (m : List Relation). m ++ moved_relations cell (one by) (map g (drop (i + 1) xs))) e
    ∙ append_assoc made (moved_relation cell (one by) (Some by) (g x)) (moved_relations cell (one by) (map g (drop (i + 1) xs)))
    ∙ ap (λ o. made ++ (moved_relation cell (one by) o (g x) ++ moved_relations cell (one by) (map g (drop (i + 1) xs)))) (sym known) ∙ ap (λ (r : List Relation). made ++ r) (sym here)
