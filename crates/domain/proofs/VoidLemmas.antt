-- Facts of which some set has no word.
use Rattle.std.proofs.Common.{◌≡◌, ℕ, zero, suc, ◌+◌, ◌<◌, ◌≤◌, true, false, ◌⊎◌, List, [], ◌∷◌, length, map, get_or, refl, sym, ap, ◌∙◌, arith, inl, inr}
use Rattle.std.specs.Prelude.{not}
use Rattle.std.proofs.lemmas.Bool.{cases_eq, cases_lt, ne_eqb}
use Rattle.std.proofs.lemmas.List.{get_or-map, length-map}
use Rattle.wordset.specs.Words.{Words, all_words, some_below}
use Rattle.wordset.proofs.Tests.{some_from, some_none_of}
use Rattle.domain.specs.TrackedCells.{TrackedCell, tracked, cell_at}
use Rattle.domain.specs.Adding.{lacks_all}

-- The entry of a cell.
record Entry (a : ℕ) (cells : List TrackedCell) : Type 0 where
  pub at : ℕ
  pub inside : at < length cells
  pub same : (cell_at cells at).address ≡ a

in_cells : (a : ℕ) (cells : List TrackedCell) → Entry a cells ⊎ ((v : ℕ) → tracked a cells v ≡ all_words v)
in_cells a [] = inr (λ v. refl)
in_cells a (c ∷ cs) = elim (cases_eq c.address a) [
  | inl e ↦ inl (record { at = zero; inside = omega arith; same = e })
  | inr n ↦ elim (in_cells a cs) [
    | inl f ↦ inl (record { at = suc f.at; inside = (let lt : f.at < length cs = f.inside in omega arith); same = f.same })
    | inr g ↦ inr (λ v. rw (ne_eqb c.address a n) (g v))
  ]
]

-- A cell of which nothing is told may hold a word.
has_word : (s : Words) → ((v : ℕ) → s v ≡ all_words v) → lacks_all s ≡ false
has_word s same = ap not (some_from 4096 s 0 (omega arith) (same 0))

-- Where no entry's cell lacks all words, no cell does.
pub none_lacks : (cells : List TrackedCell) → ((k : ℕ) → k < length cells → lacks_all (tracked (cell_at cells k).address cells) ≡ false) →
    some_below 4096 (λ a. lacks_all (tracked a cells)) ≡ false
none_lacks cells each = some_none_of 4096 (λ a. lacks_all (tracked a cells)) one
  where
    one : (a : ℕ) → a < 4096 → lacks_all (tracked a cells) ≡ false
    one a h = elim (in_cells a cells) [
      | inl f ↦ ap (λ x. lacks_all (tracked x cells)) (sym f.same) ∙ each f.at f.inside
      | inr g ↦ has_word (tracked a cells) g
    ]

-- Where one does, some cell does.
pub one_lacks : (cells : List TrackedCell) (a : ℕ) → a < 4096 → lacks_all (tracked a cells) ≡ true → some_below 4096 (λ b. lacks_all (tracked b cells)) ≡ true
one_lacks cells a h e = some_from 4096 (λ b. lacks_all (tracked b cells)) a h e

-- One entry more has a word.
pub one_further : {A : Type 0} (f : A → TrackedCell) (xs : List A) (cells : List TrackedCell) (i : ℕ) (x : A) → map f xs ≡ cells → i < length xs → x ≡ get_or xs i x →
    lacks_all (tracked (f x).address cells) ≡ false → ((k : ℕ) → k < i → lacks_all (tracked (cell_at cells k).address cells) ≡ false) →
    (k : ℕ) → k < i + 1 → lacks_all (tracked (cell_at cells k).address cells) ≡ false
one_further f xs cells i x e lt is here before k less = elim (cases_lt k i) [
  | inl l ↦ before k l
  | inr ge ↦ (let same : k ≡ i = omega (arith, ge, less) in
      let at : cell_at cells i ≡ f x = ap (λ (cs : List TrackedCell). cell_at cs i) (sym e) ∙ get_or-map f xs i x _ lt ∙ ap f (sym is) in
      ap (λ j. lacks_all (tracked (cell_at cells j).address cells)) same ∙ ap (λ (c : TrackedCell). lacks_all (tracked c.address cells)) at ∙ here)
]

-- All have one.
pub none_further : {A : Type 0} (f : A → TrackedCell) (xs : List A) (cells : List TrackedCell) (i : ℕ) → map f xs ≡ cells → length xs ≤ i →
    ((k : ℕ) → k < i → lacks_all (tracked (cell_at cells k).address cells) ≡ false) → some_below 4096 (λ a. lacks_all (tracked a cells)) ≡ false
none_further f xs cells i e past before =
    let count : length cells ≡ length xs = ap length (sym e) ∙ length-map xs f in
    none_lacks cells (λ k lt. before k (omega (arith, lt, past, count)))
