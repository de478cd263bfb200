-- Places in a text.
use Rattle.std.proofs.Common.{ℕ, ◌≡◌, ◌<◌, ◌≤◌, ◌+◌, ◌-◌, List, [], ◌∷◌, length, take, drop, arith, refl, sym, ◌∙◌, ap, Bool, not, true, false, Option, Some, None, ltb, inl, inr}
use Rattle.std.specs.List.{position, position_or_len, after_first, slice_split}
use Rattle.std.proofs.lemmas.Bool.{cases_Bool, cases_lt, lt-ltb, le-ltb}
use Rattle.std.proofs.lemmas.List.{take_all, drop_all, length-drop}
use Rattle.std.proofs.lemmas.List.Sums.{prefix_len-le-length}
use Rattle.std.proofs.lemmas.List.Splits.{slice_split_first}
use Rattle.streams.proofs.TextLemmas.{unwrap_or-position}

-- The place of the first hit, or the length where there is none, is within the text.
pub position_or_len_le : (p : ℕ → Bool) (xs : List ℕ) → position_or_len p xs ≤ length xs
position_or_len_le p xs = prefix_len-le-length (λ x. not (p x)) xs

pub ruleset places = (arith, unwrap_or-position)

-- A split at the first hit.
pub cut_at : (p : ℕ → Bool) (xs : List ℕ) (end : ℕ) → Some end ≡ position p xs → slice_split p xs ≡ take end xs ∷ slice_split p (take (length xs - (end + 1)) (drop (end + 1) xs))
cut_at p xs end found = elim (cases_lt (position_or_len p xs) (length xs)) [
  | inl lt ↦
      let is : Some end ≡ Some (position_or_len p xs) = rw (lt-ltb (position_or_len p xs) (length xs) lt) at found in
      let same : end ≡ position_or_len p xs = cc in
      let whole : take (length xs - (end + 1)) (drop (end + 1) xs) ≡ drop (end + 1) xs = take_all (length xs - (end + 1)) (drop (end + 1) xs) (simp length-drop (omega arith)) in
      rw (whole, same) (slice_split_first p xs 0 lt)
  | inr ge ↦
      let no : Some end ≡ None = rw (le-ltb (position_or_len p xs) (length xs) ge) at found in cc
]

none_passes : (p : ℕ → Bool) (xs : List ℕ) → length xs ≤ position_or_len p xs → slice_split p xs ≡ xs ∷ []
none_passes p [] ge = refl
none_passes p (x ∷ xs) ge = elim (cases_Bool (p x)) [
  | inl e ↦ absurd (omega (arith, rw e at ge))
  | inr e ↦ rw (e, none_passes p xs (omega (arith, rw e at ge))) refl
]

-- A split without a hit.
pub cut_nowhere : (p : ℕ → Bool) (xs : List ℕ) → None ≡ position p xs → slice_split p xs ≡ xs ∷ []
cut_nowhere p xs none = elim (cases_lt (position_or_len p xs) (length xs)) [
  | inl lt ↦
      let no : None ≡ Some (position_or_len p xs) = rw (lt-ltb (position_or_len p xs) (length xs) lt) at none in cc
  | inr ge ↦ none_passes p xs ge
]

-- What stands behind the first hit.
pub after_at : (p : ℕ → Bool) (xs : List ℕ) (end : ℕ) → Some end ≡ position p xs → take (length xs - (end + 1)) (drop (end + 1) xs) ≡ after_first p xs
after_at p xs end found = elim (cases_lt (position_or_len p xs) (length xs)) [
  | inl lt ↦
      let is : Some end ≡ Some (position_or_len p xs) = rw (lt-ltb (position_or_len p xs) (length xs) lt) at found in
      let same : end ≡ position_or_len p xs = cc in
      let whole : take (length xs - (end + 1)) (drop (end + 1) xs) ≡ drop (end + 1) xs = take_all (length xs - (end + 1)) (drop (end + 1) xs) (simp length-drop (omega arith)) in
      whole ∙ ap (λ n. drop (n + 1) xs) same
  | inr ge ↦
      let no : Some end ≡ None = rw (le-ltb (position_or_len p xs) (length xs) ge) at found in cc
]

pub after_nowhere : (p : ℕ → Bool) (xs : List ℕ) → None ≡ position p xs → [] ≡ after_first p xs
after_nowhere p xs none = elim (cases_lt (position_or_len p xs) (length xs)) [
  | inl lt ↦
      let no : None ≡ Some (position_or_len p xs) = rw (lt-ltb (position_or_len p xs) (length xs) lt) at none in cc
  | inr ge ↦ sym (drop_all (position_or_len p xs + 1) xs (omega arith))
]
