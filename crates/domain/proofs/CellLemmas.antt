-- Cells with their words.
use Rattle.std.proofs.Common.{◌≡◌, ℕ, zero, suc, ◌+◌, ◌<◌, ◌≤◌, ◌==◌, Bool, true, false, ◌&&◌, List, [], ◌∷◌, ◌++◌, map, take, drop, get_or, length, refl, sym, ap, ◌∙◌, arith, inl, inr}
use Rattle.std.specs.Prelude.{if◌then◌else◌, slice_set}
use Rattle.std.proofs.Math.Path.{fun_ext}
use Rattle.std.proofs.lemmas.Bool.{cases_eq, cases_lt, eq-eqb, ne_eqb, eqb-true}
use Rattle.std.proofs.lemmas.Bool.Decides.{nat_tests}
use Rattle.std.proofs.Common.{length-append}
use Rattle.std.proofs.Math.ListN.{drop_of_length-le}
use Rattle.std.proofs.lemmas.List.{append-nil, length-map, length-take, length-drop}
use Rattle.wordset.specs.Words.{Words, all_words, between, meet}
use Rattle.wordset.specs.Lanes.{words}
use Rattle.wordset.proofs.SetLemmas.{lt_to, words_past}
use Rattle.domain.proofs.RelationLemmas.{all_taken}
use Rattle.domain.specs.TrackedCells.{TrackedCell, tracked, cell_at}
use Rattle.domain.specs.CellsInCode.{words_in_cells, with_cell, freed, IsCellAt}

-- The words of a cell, entry by entry: none of them is past the last word.
pub tracked_words : (a : ℕ) (cells : List TrackedCell) (v : ℕ) → (all_words v && tracked a cells v) ≡ tracked a cells v
tracked_words a [] v = twice (all_words v)
  where
    twice : (b : Bool) → (b && b) ≡ b
    twice true = refl
    twice false = refl
tracked_words a (c ∷ cs) v = swap (all_words v) (if c.address == a then c.set v else true) (tracked a cs v) ∙ ap (λ p. (if c.address == a then c.set v else true) && p) (tracked_words a cs v)
  where
    swap : (p q r : Bool) → (p && (q && r)) ≡ (q && (p && r))
    swap true q r = refl
    swap false true r = refl
    swap false false r = refl

full_at : (v : ℕ) → between 0 4095 v ≡ all_words v
full_at v = grind (arith, nat_tests)

-- All words are in a row.
pub full_row : between 0 4095 ≡ all_words
full_row = fun_ext full_at

-- ---- the words of one cell are met

met_head : (p b h s r : Bool) → p ≡ b → ((if p then (h && s) else true) && r) ≡ (if b then ((if p then h else true) && r) && s else (if p then h else true) && r)
met_head true true h s r e = go h s r
  where
    go : (x y z : Bool) → ((x && y) && z) ≡ ((x && z) && y)
    go true true true = refl
    go true true false = refl
    go true false true = refl
    go true false false = refl
    go false y z = refl
met_head true false h s r e = absurd (let z : ⊥ = cc in z)
met_head false true h s r e = absurd (let z : ⊥ = cc in z)
met_head false false h s r e = refl

met_tail : (b h s r n : Bool) → n ≡ (if b then r && s else r) → (h && n) ≡ (if b then (h && r) && s else h && r)
met_tail true true s r n e = e
met_tail true false s r n e = refl
met_tail false h s r n e = ap (λ x. h && x) e

same_test : (c a cell : ℕ) → c ≡ cell → (c == a) ≡ (a == cell)
same_test c a cell e = elim (cases_eq a cell) [
  | inl q ↦ eq-eqb c a (omega (arith, e, q)) ∙ sym (eq-eqb a cell q)
  | inr n ↦ ne_eqb c a (λ q. n (omega (arith, e, q))) ∙ sym (ne_eqb a cell n)
]

met_entry : (cells : List TrackedCell) (at a cell v : ℕ) (s : Words) (d : TrackedCell) → at < length cells → (get_or cells at d).address ≡ cell →
    tracked a (slice_set cells at (record { address = (get_or cells at d).address; set = meet (get_or cells at d).set s })) v ≡ (if a == cell then tracked a cells v && s v else tracked a cells v)
met_entry [] at a cell v s d lt e = absurd (omega arith)
met_entry (c ∷ cs) zero a cell v s d lt e = met_head (c.address == a) (a == cell) (c.set v) (s v) (tracked a cs v) (same_test c.address a cell e)
met_entry (c ∷ cs) (suc at) a cell v s d lt e =
    met_tail (a == cell) (if c.address == a then c.set v else true) (s v) (tracked a cs v)
    (tracked a (slice_set cs at (record { address = (get_or cs at d).address; set = meet (get_or cs at d).set s })) v) (met_entry cs at a cell v s d (omega arith) e)

pushed_entry : (cells : List TrackedCell) (a cell v : ℕ) (s : Words) →
    tracked a (cells ++ record { address = cell; set = s } ∷ []) v ≡ (if a == cell then tracked a cells v && s v else tracked a cells v)
pushed_entry [] a cell v s = go (cell == a) (a == cell) (same_test cell a cell refl)
  where
    go : (p b : Bool) → p ≡ b → ((if p then s v else true) && all_words v) ≡ (if b then all_words v && s v else all_words v)
    go true true e = swap (s v) (all_words v)
      where
        swap : (x y : Bool) → (x && y) ≡ (y && x)
        swap true true = refl
        swap true false = refl
        swap false true = refl
        swap false false = refl
    go true false e = absurd (let z : ⊥ = cc in z)
    go false true e = absurd (let z : ⊥ = cc in z)
    go false false e = refl
pushed_entry (c ∷ cs) a cell v s =
    met_tail (a == cell) (if c.address == a then c.set v else true) (s v) (tracked a cs v) (tracked a (cs ++ record { address = cell; set = s } ∷ []) v) (pushed_entry cs a cell v s)

own_words : (cells : List TrackedCell) (a cell v : ℕ) (s : Words) →
    (if a == cell then tracked a cells v && s v else tracked a cells v) ≡ with_cell cell (meet (words_in_cells cells cell) s) (words_in_cells cells) a v
own_words cells a cell v s = elim (cases_eq a cell) [
  | inl e ↦ rw (eq-eqb a cell e) (ap (λ x. tracked x cells v && s v) e)
  | inr n ↦ rw (ne_eqb a cell n) refl
]

words_met : (new cells : List TrackedCell) (cell : ℕ) (s : Words) → ((a v : ℕ) → tracked a new v ≡ (if a == cell then tracked a cells v && s v else tracked a cells v)) →
    words_in_cells new ≡ with_cell cell (meet (words_in_cells cells cell) s) (words_in_cells cells)
words_met new cells cell s each = fun_ext (λ a. fun_ext (λ v. each a v ∙ own_words cells a cell v s))

-- An entry of the cell keeps the words that a set has.
pub entry_met : (cells : List TrackedCell) (at cell : ℕ) (s : Words) → IsCellAt cell cells at →
    words_in_cells (slice_set cells at (record { address = (cell_at cells at).address; set = meet (cell_at cells at).set s })) ≡ with_cell cell (meet (words_in_cells cells cell) s) (words_in_cells cells)
entry_met cells at cell s is = words_met _ cells cell s (λ a v. met_entry cells at a cell v s _ is.inside is.same)

-- One entry more.
pub entry_pushed : (cells : List TrackedCell) (cell : ℕ) (s : Words) →
    words_in_cells (cells ++ record { address = cell; set = s } ∷ []) ≡ with_cell cell (meet (words_in_cells cells cell) s) (words_in_cells cells)
entry_pushed cells cell s = words_met _ cells cell s (λ a v. pushed_entry cells a cell v s)

-- ---- the words of one cell are let go

freed_here : (y b w s r n : Bool) → y ≡ b → n ≡ (if b then w else r) → ((if y then w else true) && n) ≡ (if b then w else (if y then s else true) && r)
freed_here true true w s r n e f = ap (λ x. w && x) f ∙ twice w
  where
    twice : (x : Bool) → (x && x) ≡ x
    twice true = refl
    twice false = refl
freed_here true false w s r n e f = absurd (let z : ⊥ = cc in z)
freed_here false true w s r n e f = absurd (let z : ⊥ = cc in z)
freed_here false false w s r n e f = f

freed_past : (y b w s r n : Bool) → (b ≡ true → y ≡ false) → n ≡ (if b then w else r) → ((if y then s else true) && n) ≡ (if b then w else (if y then s else true) && r)
freed_past true true w s r n e f = absurd (let q : true ≡ false = e refl in let z : ⊥ = cc in z)
freed_past true false w s r n e f = ap (λ x. s && x) f
freed_past false true w s r n e f = f
freed_past false false w s r n e f = f

all_either : (b w : Bool) → w ≡ (if b then w else w)
all_either true w = refl
all_either false w = refl

freed_entry : (cells : List TrackedCell) (a cell v : ℕ) → tracked a (map (freed cell) cells) v ≡ (if a == cell then all_words v else tracked a cells v)
freed_entry [] a cell v = all_either (a == cell) (all_words v)
freed_entry (c ∷ cs) a cell v = elim (cases_eq c.address cell) [
  | inl e ↦ rw (eq-eqb c.address cell e) (freed_here (c.address == a) (a == cell) (all_words v) (c.set v) (tracked a cs v) (tracked a (map (freed cell) cs) v) (same_test c.address a cell e) (freed_entry cs a cell v))
  | inr n ↦ rw (ne_eqb c.address cell n) (freed_past (c.address == a) (a == cell) (all_words v) (c.set v) (tracked a cs v) (tracked a (map (freed cell) cs) v)
      (λ t. ne_eqb c.address a (λ q. n (q ∙ eqb-true a cell t))) (freed_entry cs a cell v))
]

own_freed : (cells : List TrackedCell) (a cell v : ℕ) → (if a == cell then all_words v else tracked a cells v) ≡ with_cell cell all_words (words_in_cells cells) a v
own_freed cells a cell v = elim (cases_eq a cell) [
  | inl e ↦ rw (eq-eqb a cell e) refl
  | inr n ↦ rw (ne_eqb a cell n) refl
]

-- All entries of the cell allow all words.
pub all_freed : (cells : List TrackedCell) (cell : ℕ) → words_in_cells (map (freed cell) cells) ≡ with_cell cell all_words (words_in_cells cells)
all_freed cells cell = fun_ext (λ a. fun_ext (λ v. freed_entry cells a cell v ∙ own_freed cells a cell v))

freed_at : (cell : ℕ) (xs : List TrackedCell) (i : ℕ) (d : TrackedCell) → i < length xs →
    slice_set (map (freed cell) (take i xs) ++ drop i xs) i (freed cell (get_or (map (freed cell) (take i xs) ++ drop i xs) i d)) ≡ map (freed cell) (take (suc i) xs) ++ drop (suc i) xs
freed_at cell [] i d lt = absurd (omega arith)
freed_at cell (x ∷ xs) zero d lt = refl
freed_at cell (x ∷ xs) (suc i) d lt = ap (λ (r : List TrackedCell). freed cell x ∷ r) (freed_at cell xs i d (omega arith))

-- One entry more is let go.
pub freed_on : (cell : ℕ) (xs now more : List TrackedCell) (i : ℕ) → i < length xs → now ≡ map (freed cell) (take i xs) ++ drop i xs →
    more ≡ slice_set now i (freed cell (cell_at now i)) → more ≡ map (freed cell) (take (i + 1) xs) ++ drop (i + 1) xs
freed_on cell xs now more i lt e f =
    let next : suc i ≡ i + 1 = omega arith in
    f ∙ ap (λ (r : List TrackedCell). slice_set r i (freed cell (cell_at r i))) e ∙ freed_at cell xs i _ lt ∙ ap (λ k. map (freed cell) (take k xs) ++ drop k xs) next

pub freed_length : (cell : ℕ) (xs now : List TrackedCell) (i : ℕ) → now ≡ map (freed cell) (take i xs) ++ drop i xs → length now ≡ length xs
freed_length cell xs now i e =
    let all : length now ≡ length (map (freed cell) (take i xs) ++ drop i xs) = ap length e in
    omega (arith, all, length-append (map (freed cell) (take i xs)) (drop i xs), length-map (take i xs) (freed cell), length-take i xs, length-drop i xs)

pub freed_end : (cell : ℕ) (xs now : List TrackedCell) (i : ℕ) → length xs ≤ i → now ≡ map (freed cell) (take i xs) ++ drop i xs → now ≡ map (freed cell) xs
freed_end cell xs now i past e =
    e ∙ ap (λ (r : List TrackedCell). map (freed cell) r ++ drop i xs) (all_taken xs i past) ∙ ap (λ (r : List TrackedCell). map (freed cell) xs ++ r) (drop_of_length-le xs {i = i} past)
    ∙ append-nil (map (freed cell) xs)

-- ---- the words of one cell are replaced

all_and : (lanes : List ℕ) (v : ℕ) → (all_words v && words lanes v) ≡ words lanes v
all_and lanes v = elim (cases_lt v 4096) [
  | inl l ↦ ap (λ b. b && words lanes v) (lt_to v l)
  | inr g ↦ go (all_words v) (words lanes v) (words_past lanes v g)
]
  where
    go : (x y : Bool) → y ≡ false → (x && y) ≡ y
    go true y e = refl
    go false y e = sym e

with_twice : (sets : ℕ → Words) (cell : ℕ) (s t : Words) → with_cell cell s (with_cell cell t sets) ≡ with_cell cell s sets
with_twice sets cell s t = fun_ext (λ a. go (a == cell) (sets a))
  where
    go : (b : Bool) (w : Words) → (if b then s else (if b then t else w)) ≡ (if b then s else w)
    go true w = refl
    go false w = refl

own_all : (sets : ℕ → Words) (cell : ℕ) → with_cell cell all_words sets cell ≡ all_words
own_all sets cell = rw (eq-eqb cell cell refl) refl

pub replaced : (sets mid : ℕ → Words) (cell : ℕ) (lanes : List ℕ) → mid ≡ with_cell cell all_words sets → with_cell cell (meet (mid cell) (words lanes)) mid ≡ with_cell cell (words lanes) sets
replaced sets mid cell lanes e =
    let own : mid cell ≡ all_words = ap (λ (m : ℕ → Words). m cell) e ∙ own_all sets cell in
    let met : meet (mid cell) (words lanes) ≡ words lanes = ap (λ (s : Words). meet s (words lanes)) own ∙ fun_ext (all_and lanes) in
    ap (λ (s : Words). with_cell cell s mid) met ∙ ap (λ (m : ℕ → Words). with_cell cell (words lanes) m) e ∙ with_twice sets cell (words lanes) all_words

-- All words are met with what a cell's entries allow.
pub all_tracked : (cell : ℕ) (cells : List TrackedCell) → meet all_words (tracked cell cells) ≡ tracked cell cells
all_tracked cell cells = fun_ext (tracked_words cell cells)

-- An entry of the cell that allows all words.
pub freed_is : (t : TrackedCell) (cell : ℕ) (s : Words) → t.address ≡ cell → s ≡ all_words → record { address = cell; set = s } ≡ freed cell t
freed_is t cell s e f = rw (eq-eqb t.address cell e) (ap (λ (w : Words). record { address = cell; set = w }) f ∙ ap (λ a. record { address = a; set = all_words }) (sym e))
