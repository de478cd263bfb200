-- What holds after a call: relations of which all names are outside the written set, and the sets of cells.
use Rattle.std.proofs.Common.{◌≡◌, ℕ, ◌+◌, ◌<◌, ◌≤◌, ◌==◌, Bool, true, false, ◌&&◌, List, [], ◌∷◌, ◌++◌, map, drop, get_or, length, refl, sym, ap, ◌∙◌, arith, inl, inr}
use Rattle.std.specs.Prelude.{if◌then◌else◌, not}
use Rattle.std.proofs.Math.Path.{fun_ext}
use Rattle.std.proofs.Math.ListN.{drop_of_length-le}
use Rattle.std.proofs.lemmas.Bool.{cases_Bool, eqb-true}
use Rattle.std.proofs.lemmas.List.{at_drop_more}
use Rattle.wordset.specs.Words.{Words, all_words}
use Rattle.wordset.specs.Lanes.{words}
use Rattle.domain.specs.Locations.{Location, Ac, Cell, has_cell, is_outside}
use Rattle.domain.specs.TrackedCells.{TrackedCell, tracked}
use Rattle.domain.specs.Terms.{Term, Holding, Behind, Sum, speaks_of}
use Rattle.domain.specs.Chains.{Chain}
use Rattle.domain.specs.Laws.{SameButSets}
use Rattle.domain.specs.Facts.{Fact, Relation, OfEquations, OfSums}
use Rattle.domain.specs.Adding.{with_relation, with_term_in, with_shape_in, adding, adding_all}
use Rattle.domain.specs.Moves.{outside, words_outside, joined}
use Rattle.domain.specs.CellsInCode.{cells_outside, cells_within}
use Rattle.domain.specs.FactInCode.{names_words}
use Rattle.wordset.proofs.Tests.{true_false}
use Rattle.domain.proofs.AddingLemmas.{adding_keeps}
use Rattle.domain.proofs.NameLemmas.{has_cell_words}
use Rattle.domain.proofs.CellLemmas.{tracked_words}
use Rattle.domain.proofs.PartLemmas.{added_both}

term_keeps : (f : Fact) (set : Words) (t : Term) → f.relations ≡ (with_term_in t set f).relations
term_keeps f set (Holding n) = refl
term_keeps f set (Behind x k) = refl

-- A sum of one term adds no relation.
pub short_adds_none : (f : Fact) (set : Words) (xs : Sum) → length xs < 2 → f.relations ≡ (with_shape_in OfSums xs set f).relations
short_adds_none f set [] lt = refl
short_adds_none f set (x ∷ []) lt = term_keeps f set x.term
short_adds_none f set (x ∷ y ∷ ys) lt = absurd (omega (arith, lt))

-- A longer one does.
pub longer_adds : (f : Fact) (set : Words) (xs : Sum) → 1 < length xs → with_relation xs set f.relations ≡ (with_shape_in OfSums xs set f).relations
longer_adds f set [] lt = absurd (omega (arith, lt))
longer_adds f set (x ∷ []) lt = absurd (omega (arith, lt))
longer_adds f set (x ∷ y ∷ ys) lt = refl

-- ---- relations of which all names are outside the written set, one by one

one_apart : (w : Words) (r : Relation) (rs : List Relation) → outside w (r ∷ rs) ≡ outside w (r ∷ []) ++ outside w rs
one_apart w r rs = elim (cases_Bool (speaks_of (λ n. not (is_outside w n)) r.sum)) [ inl e ↦ rw e refl | inr e ↦ rw e refl ]

pub passed_over : (w : Words) (r : Relation) (f : Fact) → speaks_of (λ n. not (is_outside w n)) r.sum ≡ true → f.relations ≡ (adding_all OfSums (outside w (r ∷ [])) f).relations
passed_over w r f e = rw e refl

pub taken_too : (w : Words) (r : Relation) (f : Fact) → speaks_of (λ n. not (is_outside w n)) r.sum ≡ false → (adding OfSums r f).relations ≡ (adding_all OfSums (outside w (r ∷ [])) f).relations
taken_too w r f e = rw e refl

-- One more is gone through.
pub outside_on : {A : Type 0} (g : A → Relation) (w : Words) (xs : List A) (i : ℕ) (x : A) (h all : Fact) → i < length xs → x ≡ get_or xs i x →
    adding_all OfSums (outside w (map g (drop i xs))) h ≡ all → adding_all OfSums (outside w (map g (drop (i + 1) xs))) (adding_all OfSums (outside w (g x ∷ [])) h) ≡ all
outside_on g w xs i x h all lt is before =
    let here : outside w (map g (drop i xs)) ≡ outside w (g x ∷ []) ++ outside w (map g (drop (i + 1) xs)) =
    at_drop_more (λ os. outside w (map g os)) xs i x lt ∙ ap (λ y. outside w (g y ∷ map g (drop (i + 1) xs))) (sym is) ∙ one_apart w (g x) (map g (drop (i + 1) xs)) in
    sym (added_both (outside w (g x ∷ [])) (outside w (map g (drop (i + 1) xs))) h) ∙ ap (λ (rs : List Relation). adding_all OfSums rs h) (sym here) ∙ before

-- None is left.
pub outside_end : {A : Type 0} (g : A → Relation) (w : Words) (xs : List A) (i : ℕ) (h all : Fact) → length xs ≤ i →
    adding_all OfSums (outside w (map g (drop i xs))) h ≡ all → h ≡ all
outside_end g w xs i h all le e = ap (λ os. adding_all OfSums (outside w (map g os)) h) (sym (drop_of_length-le xs {i = i} le)) ∙ e

-- ---- the words of a cell by some of the entries

and_same : (p q r : Bool) → (p && (q && r)) ≡ ((p && q) && r)
and_same true q r = refl
and_same false q r = refl

and_swap : (p q : Bool) → (p && q) ≡ (q && p)
and_swap true true = refl
and_swap true false = refl
and_swap false true = refl
and_swap false false = refl

appended : (a : ℕ) (xs ys : List TrackedCell) (v : ℕ) → tracked a (xs ++ ys) v ≡ (tracked a xs v && tracked a ys v)
appended a [] ys v = sym (tracked_words a ys v)
appended a (x ∷ xs) ys v =
    ap (λ b. (if x.address == a then x.set v else true) && b) (appended a xs ys v) ∙ and_same (if x.address == a then x.set v else true) (tracked a xs v) (tracked a ys v)

apart : (w : Words) (x a : ℕ) (p : Bool) → w x ≡ p → w a ≡ not p → (x == a) ≡ false
apart w x a p e f = elim (cases_Bool (x == a)) [
  | inl t ↦ absurd (go p (sym e ∙ ap w (eqb-true x a t) ∙ f))
  | inr n ↦ n
]
  where
    go : (p : Bool) → p ≡ not p → ⊥
    go true q = true_false q
    go false q = true_false (sym q)

-- A cell outside the set keeps its words, and of one of the set nothing is told.
outside_words : (w : Words) (a : ℕ) (cells : List TrackedCell) (v : ℕ) → w a ≡ false → tracked a (cells_outside w cells) v ≡ tracked a cells v
outside_words w a [] v lacks = refl
outside_words w a (c ∷ cs) v lacks = elim (cases_Bool (w c.address)) [
  | inl e ↦ (let other : (c.address == a) ≡ false = apart w c.address a true e lacks in rw (e, other) (outside_words w a cs v lacks))
  | inr e ↦ rw e (ap (λ b. (if c.address == a then c.set v else true) && b) (outside_words w a cs v lacks))
]

none_outside : (w : Words) (a : ℕ) (cells : List TrackedCell) (v : ℕ) → w a ≡ true → tracked a (cells_outside w cells) v ≡ all_words v
none_outside w a [] v has = refl
none_outside w a (c ∷ cs) v has = elim (cases_Bool (w c.address)) [
  | inl e ↦ rw e (none_outside w a cs v has)
  | inr e ↦ (let other : (c.address == a) ≡ false = apart w c.address a false e has in rw (e, other) (none_outside w a cs v has))
]

-- A cell of the set keeps its words, and of one outside it nothing is told.
within_words : (w : Words) (a : ℕ) (cells : List TrackedCell) (v : ℕ) → w a ≡ true → tracked a (cells_within w cells) v ≡ tracked a cells v
within_words w a [] v has = refl
within_words w a (c ∷ cs) v has = elim (cases_Bool (w c.address)) [
  | inl e ↦ rw e (ap (λ b. (if c.address == a then c.set v else true) && b) (within_words w a cs v has))
  | inr e ↦ (let other : (c.address == a) ≡ false = apart w c.address a false e has in rw (e, other) (within_words w a cs v has))
]

none_within : (w : Words) (a : ℕ) (cells : List TrackedCell) (v : ℕ) → w a ≡ false → tracked a (cells_within w cells) v ≡ all_words v
none_within w a [] v lacks = refl
none_within w a (c ∷ cs) v lacks = elim (cases_Bool (w c.address)) [
  | inl e ↦ (let other : (c.address == a) ≡ false = apart w c.address a true e lacks in rw (e, other) (none_within w a cs v lacks))
  | inr e ↦ rw e (none_within w a cs v lacks)
]

-- ---- the sets after a call

-- By the rules of sums.
pub sums_sets : (ac own : Words) (lanes : List ℕ) (call exit : List TrackedCell) → names_words ac (cells_outside (words lanes) call ++ exit)
    ≡ (λ n. if is_outside (words lanes) n then words_outside OfSums (names_words own call n) (names_words ac exit n) else names_words ac exit n)
sums_sets ac own lanes call exit = fun_ext at
  where
    at : (n : Location) → names_words ac (cells_outside (words lanes) call ++ exit) n
        ≡ (if is_outside (words lanes) n then words_outside OfSums (names_words own call n) (names_words ac exit n) else names_words ac exit n)
    at Ac = refl
    at (Cell a) = elim (cases_Bool (has_cell (words lanes) a)) [
      | inl e ↦ (let has : words lanes a ≡ true = sym (has_cell_words lanes a) ∙ e in rw e (fun_ext (λ v.
          appended a (cells_outside (words lanes) call) exit v ∙ ap (λ b. b && tracked a exit v) (none_outside (words lanes) a call v has) ∙ tracked_words a exit v)))
      | inr e ↦ (let lacks : words lanes a ≡ false = sym (has_cell_words lanes a) ∙ e in rw e (fun_ext (λ v.
          appended a (cells_outside (words lanes) call) exit v ∙ ap (λ b. b && tracked a exit v) (outside_words (words lanes) a call v lacks))))
    ]

-- By those of equations.
pub equations_sets : (ac own : Words) (lanes : List ℕ) (call exit : List TrackedCell) → names_words ac (cells_outside (words lanes) call ++ cells_within (words lanes) exit)
    ≡ (λ n. if is_outside (words lanes) n then words_outside OfEquations (names_words own call n) (names_words ac exit n) else names_words ac exit n)
equations_sets ac own lanes call exit = fun_ext at
  where
    at : (n : Location) → names_words ac (cells_outside (words lanes) call ++ cells_within (words lanes) exit) n
        ≡ (if is_outside (words lanes) n then words_outside OfEquations (names_words own call n) (names_words ac exit n) else names_words ac exit n)
    at Ac = refl
    at (Cell a) = elim (cases_Bool (has_cell (words lanes) a)) [
      | inl e ↦ (let has : words lanes a ≡ true = sym (has_cell_words lanes a) ∙ e in rw e (fun_ext (λ v.
          appended a (cells_outside (words lanes) call) (cells_within (words lanes) exit) v ∙ ap (λ b. b && tracked a (cells_within (words lanes) exit) v) (none_outside (words lanes) a call v has)
          ∙ ap (λ b. all_words v && b) (within_words (words lanes) a exit v has) ∙ tracked_words a exit v)))
      | inr e ↦ (let lacks : words lanes a ≡ false = sym (has_cell_words lanes a) ∙ e in rw e (fun_ext (λ v.
          appended a (cells_outside (words lanes) call) (cells_within (words lanes) exit) v ∙ ap (λ b. b && tracked a (cells_within (words lanes) exit) v) (outside_words (words lanes) a call v lacks)
          ∙ ap (λ b. tracked a call v && b) (none_within (words lanes) a exit v lacks) ∙ and_swap (tracked a call v) (all_words v) ∙ tracked_words a call v)))
    ]

-- ---- the whole fact after a call

-- By the rules of sums.
pub sums_joined : (set : Location → Words) (rs : List Relation) (cs : List Chain) (mq link sites : Words) (call exit : Fact) (w : Words) →
    set ≡ (λ n. if is_outside w n then words_outside OfSums (call.set n) (exit.set n) else exit.set n) → rs ≡ (adding_all OfSums (outside w call.relations) exit).relations →
    cs ≡ exit.chains → mq ≡ exit.mq → link ≡ exit.link → sites ≡ call.sites →
    record { set = set; relations = rs; chains = cs; mq = mq; link = link; sites = sites; offsets = call.offsets } ≡ joined OfSums call exit w
unfolding joined
sums_joined set rs cs mq link sites call exit w es er ec em el et =
    let kept : SameButSets exit (adding_all OfSums (outside w call.relations) exit) = adding_keeps OfSums (outside w call.relations) exit in
    rw (es, er, ec ∙ sym kept.chains, em ∙ sym kept.mq, el ∙ sym kept.link, et) refl

-- By those of equations.
pub equations_joined : (set : Location → Words) (rs : List Relation) (cs : List Chain) (mq link sites : Words) (call exit : Fact) (w : Words) →
    set ≡ (λ n. if is_outside w n then words_outside OfEquations (call.set n) (exit.set n) else exit.set n) → rs ≡ outside w call.relations ++ exit.relations →
    cs ≡ exit.chains → mq ≡ exit.mq → link ≡ exit.link → sites ≡ call.sites →
    record { set = set; relations = rs; chains = cs; mq = mq; link = link; sites = sites; offsets = call.offsets } ≡ joined OfEquations call exit w
unfolding joined
equations_joined set rs cs mq link sites call exit w es er ec em el et = rw (es, er, ec, em, el, et) refl
