-- The first line of a text and the first word of a line.
use Rattle.std.proofs.Common.{ℕ, ◌≡◌, ◌<◌, ◌≤◌, ◌+◌, List, [], ◌∷◌, length, take, drop, arith, refl, Bool, true, false, not, sym, ◌∙◌, ap, map, filter, Some, None, unwrap_or, ltb, eqb, inl, inr, suc}
use Rattle.std.specs.List.{position_or_len, position, slice_split, before_first}
use Rattle.std.specs.Str.Lines.{strip_carriage_return}
use Rattle.std.proofs.lemmas.Bool.{cases_Bool, cases_lt, lt-ltb, le-ltb, ne_eqb}
use Rattle.std.proofs.lemmas.List.Sums.{prefix_len-le-length}
use Rattle.std.proofs.lemmas.List.Folds.{length-prefix_len}
use Rattle.std.proofs.lemmas.List.Splits.{slice_split_first}
use Rattle.streams.specs.Text.{is_slash, is_blank, is_other, words_of, text_lines}

-- the place of the first hit, or the length where there is none
pub unwrap_or-position : (p : ℕ → Bool) (xs : List ℕ) → unwrap_or (position p xs) (length xs) ≡ position_or_len p xs
unwrap_or-position p xs = elim (cases_lt (position_or_len p xs) (length xs)) [
  | inl lt ↦ rw (lt-ltb (position_or_len p xs) (length xs) lt) refl
  | inr ge ↦ let within : position_or_len p xs ≤ length xs = prefix_len-le-length (λ x. not (p x)) xs in
      rw (le-ltb (position_or_len p xs) (length xs) ge) (omega arith)
]

pub ruleset places = (arith, unwrap_or-position)

-- the same is within the list
pub position_or_len-le : (p : ℕ → Bool) (xs : List ℕ) → position_or_len p xs ≤ length xs
position_or_len-le p xs = prefix_len-le-length (λ x. not (p x)) xs

-- a split has a first part
pub slice_split_nonempty : (p : ℕ → Bool) (xs : List ℕ) → (first : List ℕ) × (others : List (List ℕ)) × (slice_split p xs ≡ first ∷ others)
slice_split_nonempty p [] = ([], [], refl)
slice_split_nonempty p (x ∷ xs) = elim (cases_Bool (p x)) [
  | inl e ↦ ([], slice_split p xs, rw e refl)
  | inr e ↦ let r = slice_split_nonempty p xs in (x ∷ r.0, r.1, rw (e, r.2) refl)
]

one_more : (n : ℕ) → 1 + n ≡ suc n
one_more n = omega arith

-- the piece up to the first blank, and the words after it
words_piece : (xs : List ℕ) → (others : List (List ℕ)) × (slice_split is_blank xs ≡ take (position_or_len is_blank xs) xs ∷ others) × (filter (λ piece. ltb 0 (length piece)) others ≡ words_of (drop (position_or_len is_blank xs) xs))
words_piece [] = ([], refl, refl)
words_piece (x ∷ xs) = elim (cases_Bool (is_blank x)) [
  | inl e ↦ (slice_split is_blank xs, rw e refl, rw (e, e) refl)
  | inr e ↦ let r = words_piece xs in (r.0, rw (e, one_more (position_or_len is_blank xs), r.1) refl, rw (e, one_more (position_or_len is_blank xs)) (r.2))
]

-- blanks at the front bring no words
pub words_of-blanks : (xs : List ℕ) → words_of (drop (position_or_len is_other xs) xs) ≡ words_of xs
words_of-blanks [] = refl
words_of-blanks (x ∷ xs) = elim (cases_Bool (is_blank x)) [
  | inl e ↦ rw (e, one_more (position_or_len is_other xs)) (words_of-blanks xs)
  | inr e ↦ rw (e, e) refl
]

-- where the first word would be empty, nothing is left
pub drop_blanks_none : (xs : List ℕ) → position_or_len is_blank (drop (position_or_len is_other xs) xs) ≡ 0 → drop (position_or_len is_other xs) xs ≡ []
drop_blanks_none [] h = refl
drop_blanks_none (x ∷ xs) h = elim (cases_Bool (is_blank x)) [
  | inl e ↦ rw (e, one_more (position_or_len is_other xs)) (drop_blanks_none xs (rw (e, one_more (position_or_len is_other xs)) at h))
  | inr e ↦ absurd (omega (arith, rw (e, e) at h))
]

-- the first word, and the words after it
pub words_of-first : (xs : List ℕ) → 0 < position_or_len is_blank xs → words_of xs ≡ take (position_or_len is_blank xs) xs ∷ words_of (drop (position_or_len is_blank xs) xs)
words_of-first xs h =
    let r = words_piece xs in
    let long : length (take (position_or_len is_blank xs) xs) ≡ position_or_len is_blank xs = length-prefix_len (λ x. not (is_blank x)) xs in
    let some : ltb 0 (length (take (position_or_len is_blank xs) xs)) ≡ true = rw long (lt-ltb 0 (position_or_len is_blank xs) h) in
    rw (r.1, some, r.2) refl

-- a turn of the iterator over words that brings one
pub word_step : (xs ys word rest : List ℕ) (n : ℕ) → ys ≡ drop (position_or_len is_other xs) xs → n ≡ position_or_len is_blank ys → word ≡ take n ys → rest ≡ drop n ys → 0 < length word → words_of xs ≡ word ∷ words_of rest
word_step xs ys word rest n y nn w r h =
    let same : words_of ys ≡ words_of xs = rw y (words_of-blanks xs) in
    let long : length (take (position_or_len is_blank ys) ys) ≡ position_or_len is_blank ys = length-prefix_len (λ x. not (is_blank x)) ys in
    let front : word ≡ take (position_or_len is_blank ys) ys = rw (← nn) w in
    let some : 0 < position_or_len is_blank ys = omega (arith, long, ap length front) in
    let first : words_of ys ≡ take n ys ∷ words_of (drop n ys) = rw nn (words_of-first ys some) in
    rw (← same, first, w, r) refl

-- a turn that brings none
pub word_end : (xs ys word rest : List ℕ) (n : ℕ) → ys ≡ drop (position_or_len is_other xs) xs → n ≡ position_or_len is_blank ys → word ≡ take n ys → rest ≡ drop n ys → length word ≡ 0 → (words_of xs ≡ []) × (words_of rest ≡ [])
word_end xs ys word rest n y nn w r h =
    let same : words_of ys ≡ words_of xs = rw y (words_of-blanks xs) in
    let long : length (take (position_or_len is_blank ys) ys) ≡ position_or_len is_blank ys = length-prefix_len (λ x. not (is_blank x)) ys in
    let front : word ≡ take (position_or_len is_blank ys) ys = rw (← nn) w in
    let zero : position_or_len is_blank ys ≡ 0 = omega (arith, long, ap length front) in
    let none : ys ≡ [] = y ∙ drop_blanks_none xs (rw y at zero) in
    let n0 : n ≡ 0 = omega arith in
    (sym same ∙ rw none refl, rw (r, n0, none) refl)

-- with no hit a split is the one part
slice_split_all : (p : ℕ → Bool) (xs : List ℕ) → position_or_len p xs ≡ length xs → slice_split p xs ≡ xs ∷ []
slice_split_all p [] h = refl
slice_split_all p (x ∷ xs) h = elim (cases_Bool (p x)) [
  | inl e ↦ absurd (omega (arith, rw e at h))
  | inr e ↦ let more : 1 + position_or_len p xs ≡ suc (length xs) = rw e at h in
      rw (e, slice_split_all p xs (omega arith)) refl
]

-- the first line, where it ends with a line feed
pub text_lines-first : (xs : List ℕ) → position_or_len (λ c. eqb c 10) xs < length xs → text_lines xs ≡ before_first is_slash (strip_carriage_return (take (position_or_len (λ c. eqb c 10) xs) xs)) ∷ text_lines (drop (position_or_len (λ c. eqb c 10) xs + 1) xs)
text_lines-first xs h =
    let rest : List ℕ = drop (position_or_len (λ c. eqb c 10) xs + 1) xs in
    let split : slice_split (λ c. eqb c 10) xs ≡ take (position_or_len (λ c. eqb c 10) xs) xs ∷ slice_split (λ c. eqb c 10) rest = slice_split_first (λ c. eqb c 10) xs 0 h in
    let others = slice_split_nonempty (λ c. eqb c 10) rest in
    rw (split, others.2) refl

-- the one line, where no line feed stands
pub text_lines-last : (xs : List ℕ) → position_or_len (λ c. eqb c 10) xs ≡ length xs → 0 < length xs → text_lines xs ≡ before_first is_slash xs ∷ text_lines []
text_lines-last xs none some =
    let split : slice_split (λ c. eqb c 10) xs ≡ xs ∷ [] = slice_split_all (λ c. eqb c 10) xs none in
    let long : eqb (length xs) 0 ≡ false = ne_eqb (length xs) 0 (λ e. omega arith) in
    rw (split, long) refl

position_some : (p : ℕ → Bool) (xs : List ℕ) (n : ℕ) → Some n ≡ position p xs → (position_or_len p xs ≡ n) × (position_or_len p xs < length xs)
position_some p xs n h = elim (cases_lt (position_or_len p xs) (length xs)) [
  | inl lt ↦ let e : Some n ≡ Some (position_or_len p xs) = rw (lt-ltb (position_or_len p xs) (length xs) lt) at h in (cc, lt)
  | inr ge ↦ let e : Some n ≡ None = rw (le-ltb (position_or_len p xs) (length xs) ge) at h in absurd (cc)
]

position_none : (p : ℕ → Bool) (xs : List ℕ) → None ≡ position p xs → position_or_len p xs ≡ length xs
position_none p xs h = elim (cases_lt (position_or_len p xs) (length xs)) [
  | inl lt ↦ let e : None ≡ Some (position_or_len p xs) = rw (lt-ltb (position_or_len p xs) (length xs) lt) at h in absurd (cc)
  | inr ge ↦ omega (arith, position_or_len-le p xs)
]

-- a turn of the iterator over lines, at a line feed and at the last line
pub line_step : (xs line kept rest : List ℕ) (n : ℕ) → Some n ≡ position (λ c. eqb c 10) xs → line ≡ strip_carriage_return (take n xs) → kept ≡ before_first is_slash line → rest ≡ drop (n + 1) xs → text_lines xs ≡ kept ∷ text_lines rest
line_step xs line kept rest n h l k r =
    let at = position_some (λ c. eqb c 10) xs n h in
    let first = text_lines-first xs at.1 in
    rw (k, l, r) (rw at.0 at first)

pub line_last : (xs kept rest : List ℕ) → None ≡ position (λ c. eqb c 10) xs → 0 < length xs → kept ≡ before_first is_slash xs → rest ≡ [] → text_lines xs ≡ kept ∷ text_lines rest
line_last xs kept rest h some k r =
    let last = text_lines-last xs (position_none (λ c. eqb c 10) xs h) some in
    rw (k, r) last
