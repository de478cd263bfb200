-- Lists of cells and of offsets, read a word at a time.
use Rattle.std.proofs.Common.{ℕ, ◌≡◌, ◌<◌, suc, ◌≤◌, ◌+◌, ◌-◌, leb, ◌==◌, Bool, true, false, ◌||◌, List, [], ◌∷◌, length, drop, arith, refl, sym, ◌∙◌, ap, Option, Some, None, inl, inr}
use Rattle.std.specs.List.{list_any, find, position_or_len, before_first, after_first}
use Rattle.std.specs.Prelude.{IfSome}
use Rattle.std.specs.Option.{option_map, option_zip}
use Rattle.std.proofs.Math.Path.{fun_ext}
use Rattle.std.proofs.lemmas.Bool.{cases_Bool, cases_eq, ne_eqb, and_parts, leb-true, lt-ltb}
use Rattle.word12.specs.Octal.{is_octal_digit, octal_value}
use Rattle.wordset.specs.Words.{Words, nothing, one, union}
use Rattle.streams.specs.Text.{octal_word}
use Rattle.declaration.specs.Lines.{all_of, address_of, range_of, is_returns, is_subject}
use Rattle.declaration.specs.Drafts.{cells_before, ranges_before}

or_assoc : (a b c : Bool) → (a || (b || c)) ≡ ((a || b) || c)
or_assoc true b c = refl
or_assoc false b c = refl

or_nothing : (b : Bool) → (b || false) ≡ b
or_nothing true = refl
or_nothing false = refl

union_nothing : (set : Words) → union set nothing ≡ set
union_nothing set = fun_ext (λ a. or_nothing (set a))

-- the cells of a word and those of others
abbrev added : Option Words → Option Words → Option Words
added first more = option_map (λ it. union it.0 it.1) (option_zip first more)

-- the cells so far, with those that are still to be read
abbrev pub with_cells : Words → Option Words → Option Words
with_cells set more = option_map (λ others. union set others) more

with_first : (set c : Words) (more : Option Words) → with_cells set (added (Some c) more) ≡ with_cells (union set c) more
with_first set c None = refl
with_first set c (Some others) = ap (λ s. Some s) (fun_ext (λ a. or_assoc (set a) (c a) (others a)))

-- a word more
pub cells_step : (read : List ℕ → Option Words) (set new c : Words) (ws others : List (List ℕ)) (w : List ℕ) (all : Option Words) → ws ≡ w ∷ others → Some c ≡ read w → new ≡ union set c → with_cells set (all_of read ws) ≡ all → with_cells new (all_of read others) ≡ all
cells_step read set new c ws others w all left is grown so_far =
    let reads : with_cells set (added (read w) (all_of read others)) ≡ all = rw left at so_far in
    let some : with_cells set (added (Some c) (all_of read others)) ≡ all = rw (← is) at reads in
    rw grown (sym (with_first set c (all_of read others)) ∙ some)

-- a word that doesn't read
pub cells_fail : (read : List ℕ → Option Words) (set : Words) (ws others : List (List ℕ)) (w : List ℕ) (all : Option Words) → ws ≡ w ∷ others → None ≡ read w → with_cells set (all_of read ws) ≡ all → None ≡ all
cells_fail read set ws others w all left is so_far =
    let reads : with_cells set (added (read w) (all_of read others)) ≡ all = rw left at so_far in
    rw (← is) at reads

-- no words are left
pub cells_end : (read : List ℕ → Option Words) (set : Words) (ws : List (List ℕ)) (all : Option Words) → ws ≡ [] → with_cells set (all_of read ws) ≡ all → Some set ≡ all
cells_end read set ws all none so_far =
    let reads : Some (union set nothing) ≡ all = rw none at so_far in
    rw (union_nothing set) at reads

-- no words were read
pub cells_start : (set : Words) (more : Option Words) → set ≡ nothing → with_cells set more ≡ more
cells_start set None none = refl
cells_start set (Some others) none = ap (λ s. Some s) (fun_ext (λ a. ap (λ (s : Words). s a || others a) none))

-- ---- bodies

one_suc : (n : ℕ) → 1 + n ≡ suc n
one_suc n = omega arith

none_first : (o : Option Words) → None ≡ added o None
none_first None = refl
none_first (Some c) = refl

ranges_before-first : (w : List ℕ) (ws : List (List ℕ)) → is_returns w ≡ false → ranges_before (w ∷ ws) ≡ added (range_of w) (ranges_before ws)
ranges_before-first w ws not = elim (cases_Bool (list_any is_returns ws)) [
  | inl e ↦ rw (not, e, one_suc (position_or_len is_returns ws)) refl
  | inr e ↦ rw (not, e) (none_first (range_of w))
]

-- a range more of a body
pub body_step : (set new c : Words) (ws others : List (List ℕ)) (w : List ℕ) (all : Option Words) → ws ≡ w ∷ others → is_returns w ≡ false → Some c ≡ range_of w → new ≡ union set c → with_cells set (ranges_before ws) ≡ all → with_cells new (ranges_before others) ≡ all
body_step set new c ws others w all left not is grown so_far =
    let reads : with_cells set (added (range_of w) (ranges_before others)) ≡ all = rw (left, ranges_before-first w others not) at so_far in
    let some : with_cells set (added (Some c) (ranges_before others)) ≡ all = rw (← is) at reads in
    rw grown (sym (with_first set c (ranges_before others)) ∙ some)

-- the end of a body
pub body_end : (set : Words) (ws others : List (List ℕ)) (w : List ℕ) (all : Option Words) → ws ≡ w ∷ others → is_returns w ≡ true → with_cells set (ranges_before ws) ≡ all → Some set ≡ all
body_end set ws others w all left is so_far =
    let reads : Some (union set nothing) ≡ all = rw (left, is) at so_far in
    rw (union_nothing set) at reads

one_more : (n : ℕ) → 1 + n + 1 ≡ suc (n + 1)
one_more n = omega arith

-- what follows the word `returns`
pub after_other : (ws others : List (List ℕ)) (w : List ℕ) → ws ≡ w ∷ others → is_returns w ≡ false → after_first is_returns ws ≡ after_first is_returns others
after_other ws others w left not = rw (left, not) (ap (λ n. drop n (w ∷ others)) (one_more (position_or_len is_returns others)))

pub after_returns : (ws others : List (List ℕ)) (w : List ℕ) → ws ≡ w ∷ others → is_returns w ≡ true → after_first is_returns ws ≡ others
after_returns ws others w left is = rw (left, is) refl

-- ---- up to the name of a subject

before_other : (w : List ℕ) (ws : List (List ℕ)) → is_subject w ≡ false → before_first is_subject (w ∷ ws) ≡ w ∷ before_first is_subject ws
before_other w ws not = rw (not, one_suc (position_or_len is_subject ws)) refl

before_named : (w : List ℕ) (ws : List (List ℕ)) → is_subject w ≡ true → before_first is_subject (w ∷ ws) ≡ []
before_named w ws is = rw is refl

-- an address more before it
pub places_step : (set new c : Words) (ws others : List (List ℕ)) (w : List ℕ) (all : Option Words) → ws ≡ w ∷ others → is_subject w ≡ false → Some c ≡ address_of w → new ≡ union set c → with_cells set (cells_before ws) ≡ all → with_cells new (cells_before others) ≡ all
places_step set new c ws others w all left not is grown so_far =
    cells_step address_of set new c (before_first is_subject ws) (before_first is_subject others) w all (ap (λ vs. before_first is_subject vs) left ∙ before_other w others not) is grown so_far

-- a word before it that is no address
pub places_fail : (set : Words) (ws others : List (List ℕ)) (w : List ℕ) (all : Option Words) → ws ≡ w ∷ others → is_subject w ≡ false → None ≡ address_of w → with_cells set (cells_before ws) ≡ all → None ≡ all
places_fail set ws others w all left not is so_far =
    cells_fail address_of set (before_first is_subject ws) (before_first is_subject others) w all (ap (λ vs. before_first is_subject vs) left ∙ before_other w others not) is so_far

-- the name itself, and the end where there is none
pub places_end : (set : Words) (ws others : List (List ℕ)) (w : List ℕ) (all : Option Words) → ws ≡ w ∷ others → is_subject w ≡ true → with_cells set (cells_before ws) ≡ all → Some set ≡ all
places_end set ws others w all left is so_far =
    cells_end address_of set (before_first is_subject ws) all (ap (λ vs. before_first is_subject vs) left ∙ before_named w others is) so_far

pub places_done : (set : Words) (ws : List (List ℕ)) (all : Option Words) → ws ≡ [] → with_cells set (cells_before ws) ≡ all → Some set ≡ all
places_done set ws all none so_far = cells_end address_of set (before_first is_subject ws) all (ap (λ vs. before_first is_subject vs) none) so_far

-- the name that is found, and what follows it
pub found_other : (ws others : List (List ℕ)) (w : List ℕ) → ws ≡ w ∷ others → is_subject w ≡ false → find is_subject ws ≡ find is_subject others
found_other ws others w left not = rw (left, not) refl

pub found_named : (ws others : List (List ℕ)) (w : List ℕ) → ws ≡ w ∷ others → is_subject w ≡ true → find is_subject ws ≡ Some w
found_named ws others w left is = rw (left, is) refl

pub after_unnamed : (ws others : List (List ℕ)) (w : List ℕ) → ws ≡ w ∷ others → is_subject w ≡ false → after_first is_subject ws ≡ after_first is_subject others
after_unnamed ws others w left not = rw (left, not) (ap (λ n. drop n (w ∷ others)) (one_more (position_or_len is_subject others)))

pub after_named : (ws others : List (List ℕ)) (w : List ℕ) → ws ≡ w ∷ others → is_subject w ≡ true → after_first is_subject ws ≡ others
after_named ws others w left is = rw (left, is) refl

-- ---- offsets

pub eqb-turned : (a b : ℕ) → (a == b) ≡ (b == a)
eqb-turned a b = elim (cases_eq a b) [ inl e ↦ rw e refl | inr ne ↦ ne_eqb a b ne ∙ sym (ne_eqb b a (λ e. ne (sym e))) ]

-- an offset more
pub one_offset : (set new : Words) (o : ℕ) → new ≡ (λ v. set v || o == v) → new ≡ union set (one o)
one_offset set new o grown = grown ∙ fun_ext (λ v. ap (λ b. set v || b) (eqb-turned o v))

-- one octal digit spells a number below 8
pub digit_below_8 : (word : List ℕ) (v : ℕ) → length word ≡ 1 → Some v ≡ octal_word word → v < 8
digit_below_8 [] v one is = absurd (omega arith)
digit_below_8 (c ∷ []) v one is = elim (cases_Bool (is_octal_digit c)) [
  | inl e ↦ let high : c ≤ 55 = leb-true c 55 (and_parts (leb 48 c) (leb c 55) e).1 in
      let small : c - 48 < 8 = omega arith in
      let value : octal_value (c ∷ []) ≡ c - 48 = omega arith in
      let below : octal_value (c ∷ []) < 4096 = omega arith in
      let reads : Some v ≡ Some (octal_value (c ∷ [])) = rw (e, lt-ltb (octal_value (c ∷ [])) 4096 below) at is in
      let same : v ≡ octal_value (c ∷ []) = cc in
      omega arith
  | inr e ↦ let reads : Some v ≡ None = rw e at is in absurd (cc)
]
digit_below_8 (c ∷ d ∷ more) v one is = absurd (omega arith)

pub below_8 : (word : List ℕ) (o : Option ℕ) → length word ≡ 1 → o ≡ octal_word word → IfSome o (λ v. v < 8)
below_8 word None one is = tt
below_8 word (Some v) one is = digit_below_8 word v one is
