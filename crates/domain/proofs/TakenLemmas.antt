-- Cells of which one changes, unknown which.
use Rattle.std.proofs.Common.{◌≡◌, ℕ, suc, ◌<◌, ◌≤◌, ◌==◌, Bool, true, false, ◌&&◌, ◌||◌, List, [], ◌∷◌, length, map, refl, sym, ap, ◌∙◌, inl, inr, arith}
use Rattle.std.specs.Prelude.{if◌then◌else◌, not, flat_map, Option, Some}
use Rattle.std.proofs.Math.Path.{fun_ext}
use Rattle.std.proofs.lemmas.Bool.{cases_Bool, cases_lt, eqb-true}
use Rattle.wordset.specs.Words.{Words, all_words, union, one}
use Rattle.wordset.proofs.SetLemmas.{all_past, words_past}
use Rattle.domain.specs.Locations.{Location, Ac, Cell, same, has_cell, is_outside}
use Rattle.domain.specs.TrackedCells.{TrackedCell, tracked}
use Rattle.domain.specs.Moves.{weakly_updated_sets, moved_relation, moved_relations, cells_of, free_of}
use Rattle.domain.specs.Taken.{changed, changed_among}
use Rattle.domain.specs.declared.taking.Change.{Change}
use Rattle.domain.specs.declared.taking.Change.TheVariants.{CountsUp, Takes}
use Rattle.domain.specs.FactInCode.{names_words}
use Rattle.domain.specs.Terms.{Sum, name_of_term, speaks_of}
use Rattle.domain.specs.Facts.{Relation}
use Rattle.domain.proofs.PartLemmas.{tracked_past}
use Rattle.domain.proofs.BriefLemmas.{only_of_one}

pub stays_among : (among : Words) (new : Words → Words) (cells : List TrackedCell) (c : TrackedCell) → has_cell among c.address ≡ false → c ≡ changed_among among new cells c
stays_among among new cells c e = rw e refl

pub changes_among : (among : Words) (new : Words → Words) (cells : List TrackedCell) (c : TrackedCell) (s : Words) → has_cell among c.address ≡ true →
    s ≡ union (tracked c.address cells) (new (tracked c.address cells)) → record { address = c.address; set = s } ≡ changed_among among new cells c
changes_among among new cells c s e h = rw e (ap (λ (x : Words). record { address = c.address; set = x }) h)

-- The address is the same.
address_same : (among : Words) (new : Words → Words) (all : List TrackedCell) (c : TrackedCell) → (changed_among among new all c).address ≡ c.address
address_same among new all c = elim (cases_Bool (has_cell among c.address)) [ inl e ↦ rw e refl | inr e ↦ rw e refl ]

-- A cell that is not of the set keeps its words.
kept : (a : ℕ) (among : Words) (new : Words → Words) (all cells : List TrackedCell) (v : ℕ) → has_cell among a ≡ false → tracked a (map (changed_among among new all) cells) v ≡ tracked a cells v
kept a among new all [] v lacks = refl
kept a among new all (c ∷ cs) v lacks = elim (cases_Bool (c.address == a)) [
  | inl e ↦ (let here : has_cell among c.address ≡ false = ap (has_cell among) (eqb-true c.address a e) ∙ lacks in
      rw here (ap (λ b. (if c.address == a then c.set v else true) && b) (kept a among new all cs v lacks)))
  | inr e ↦ rw (address_same among new all c, e) (kept a among new all cs v lacks)
]

-- A cell of the set has the words of the change, where it has an entry, and all words elsewhere.
has_entry : ℕ → List TrackedCell → Bool
has_entry a [] = false
has_entry a (c ∷ cs) = (c.address == a) || has_entry a cs

given_words : (a : ℕ) (among : Words) (new : Words → Words) (all cells : List TrackedCell) (v : ℕ) → has_cell among a ≡ true →
    tracked a (map (changed_among among new all) cells) v ≡ ((if has_entry a cells then union (tracked a all) (new (tracked a all)) v else true) && all_words v)
unfolding has_entry
given_words a among new all [] v has = refl
given_words a among new all (c ∷ cs) v has = elim (cases_Bool (c.address == a)) [
  | inl e ↦ (let is : c.address ≡ a = eqb-true c.address a e in
      let here : has_cell among c.address ≡ true = ap (has_cell among) is ∙ has in
      rw (here, e) (ap (λ b. union (tracked c.address all) (new (tracked c.address all)) v && b) (given_words a among new all cs v has)
      ∙ ap (λ x. union (tracked x all) (new (tracked x all)) v && ((if has_entry a cs then union (tracked a all) (new (tracked a all)) v else true) && all_words v)) is
      ∙ twice (union (tracked a all) (new (tracked a all)) v) (has_entry a cs) (all_words v)))
  | inr e ↦ rw (address_same among new all c, e) (given_words a among new all cs v has)
]
  where
    twice : (w h l : Bool) → (w && ((if h then w else true) && l)) ≡ (w && l)
    twice true true l = refl
    twice true false l = refl
    twice false h l = refl

none_tracked : (a : ℕ) (cells : List TrackedCell) (v : ℕ) → has_entry a cells ≡ false → tracked a cells v ≡ all_words v
unfolding has_entry
none_tracked a [] v e = refl
none_tracked a (c ∷ cs) v e = elim (cases_Bool (c.address == a)) [
  | inl t ↦ absurd (let z : true ≡ false = sym (rw t refl) ∙ e in cc)
  | inr n ↦ rw n (none_tracked a cs v (sym (rw n refl) ∙ e))
]

updated_at : (a : ℕ) (among : Words) (new : Words → Words) (all : List TrackedCell) (v : ℕ) → has_cell among a ≡ true →
    (4096 ≤ v → new (tracked a all) v ≡ false) → tracked a (map (changed_among among new all) all) v ≡ union (tracked a all) (new (tracked a all)) v
updated_at a among new all v has past = given_words a among new all all v has ∙ elim (cases_lt v 4096) [
  | inl l ↦ elim (cases_Bool (has_entry a all)) [
    | inl e ↦ rw e (below (union (tracked a all) (new (tracked a all)) v) (is_word v l))
    | inr e ↦ rw e (is_word v l ∙ sym (ap (λ b. b || new (tracked a all) v) (none_tracked a all v e ∙ is_word v l)))
  ]
  | inr g ↦ beyond (if has_entry a all then union (tracked a all) (new (tracked a all)) v else true) (all_past v g)
      ∙ sym (ap (λ b. b || new (tracked a all) v) (tracked_past a all v g) ∙ past g)
]
  where
    is_word : (v : ℕ) → v < 4096 → all_words v ≡ true
    is_word v l = grind (arith, l)

    below : (w : Bool) {l : Bool} → l ≡ true → (w && l) ≡ w
    below true e = e
    below false e = refl

    beyond : (w : Bool) {l : Bool} → l ≡ false → (w && l) ≡ false
    beyond true e = e
    beyond false e = refl

pub weak_sets : (ac old : Words) (among : Words) (new : Words → Words) (cells : List TrackedCell) → ac ≡ old → ((s : Words) (v : ℕ) → 4096 ≤ v → new s v ≡ false) →
    names_words ac (map (changed_among among new cells) cells) ≡ (λ n. weakly_updated_sets among (λ a. new (names_words old cells (Cell a))) (names_words old cells) n)
weak_sets ac old among new cells same past = fun_ext at
  where
    at : (n : Location) → names_words ac (map (changed_among among new cells) cells) n ≡ weakly_updated_sets among (λ a. new (names_words old cells (Cell a))) (names_words old cells) n
    at Ac = same
    at (Cell a) = elim (cases_Bool (has_cell among a)) [
      | inl e ↦ rw e (fun_ext (λ v. updated_at a among new cells v e (past (tracked a cells) v)))
      | inr e ↦ rw e (fun_ext (λ v. kept a among new cells cells v e))
    ]

-- No number past the words comes by a change.
pub change_past : (change : Change) (s : Words) (v : ℕ) → 4096 ≤ v → changed change s v ≡ false
change_past CountsUp s v far = beyond (all_words v) _ (all_past v far)
  where
    beyond : (l b : Bool) → l ≡ false → (l && b) ≡ false
    beyond l b e = rw e refl
change_past (Takes other) s v far = words_past other.now v far

-- ---- relations after a count by a known word

-- Each of them moves, and none goes.
pub all_moved : (cell by : ℕ) (rs : List Relation) → by < 4096 → length (moved_relations cell (one by) rs) ≡ length rs
all_moved cell by rs small = ap (λ (o : Option ℕ). length (flat_map (moved_relation cell (one by) o) rs)) (only_of_one by small) ∙ go rs
  where
    go : (rs : List Relation) → length (flat_map (moved_relation cell (one by) (Some by)) rs) ≡ length rs
    go [] = refl
    go (r ∷ rs) = ap suc (go rs)

-- ---- what goes with the accumulator and the cells of a set

changing_names : (w : Words) (n : Location) → not (is_outside w n) ≡ (cells_of w n || same n Ac)
changing_names w Ac = refl
changing_names w (Cell a) = go (has_cell w a)
  where
    go : (b : Bool) → not (not b) ≡ (b || false)
    go true = refl
    go false = refl

speaks_changing : (w : Words) (sum : Sum) → speaks_of (λ n. not (is_outside w n)) sum ≡ (speaks_of (cells_of w) sum || speaks_of (λ m. same m Ac) sum)
speaks_changing w [] = refl
speaks_changing w (x ∷ xs) =
    ap (λ b. b || speaks_of (λ n. not (is_outside w n)) xs) (changing_names w (name_of_term x.term))
    ∙ ap (λ b. (cells_of w (name_of_term x.term) || same (name_of_term x.term) Ac) || b) (speaks_changing w xs)
    ∙ across (cells_of w (name_of_term x.term)) (same (name_of_term x.term) Ac) (speaks_of (cells_of w) xs) (speaks_of (λ m. same m Ac) xs)
  where
    across : (p q r s : Bool) → ((p || q) || (r || s)) ≡ ((p || r) || (q || s))
    across true q r s = refl
    across false true true s = refl
    across false true false s = refl
    across false false true s = refl
    across false false false s = refl

-- The relations that speak of neither, one after the other.
pub free_of_both : (w : Words) (rs : List Relation) → free_of (λ n. not (is_outside w n)) rs ≡ free_of (λ m. same m Ac) (free_of (cells_of w) rs)
free_of_both w [] = refl
free_of_both w (r ∷ rs) = elim (cases_Bool (speaks_of (cells_of w) r.sum)) [
  | inl e ↦ (let all : speaks_of (λ n. not (is_outside w n)) r.sum ≡ true = speaks_changing w r.sum ∙ ap (λ b. b || speaks_of (λ m. same m Ac) r.sum) e in rw (e, all) (free_of_both w rs))
  | inr e ↦ (let some : speaks_of (λ n. not (is_outside w n)) r.sum ≡ speaks_of (λ m. same m Ac) r.sum = speaks_changing w r.sum ∙ ap (λ b. b || speaks_of (λ m. same m Ac) r.sum) e in
      elim (cases_Bool (speaks_of (λ m. same m Ac) r.sum)) [
        | inl f ↦ (let all : speaks_of (λ n. not (is_outside w n)) r.sum ≡ true = some ∙ f in rw (e, all, f) (free_of_both w rs))
        | inr f ↦ (let none : speaks_of (λ n. not (is_outside w n)) r.sum ≡ false = some ∙ f in rw (e, none, f) (ap (λ (xs : List Relation). r ∷ xs) (free_of_both w rs)))
      ])
]
