-- The test of a set that is kept by lanes, and what its equality with an image gives.
use Rattle.std.proofs.Common.{◌≡◌, ℕ, ◌-◌, ◌/◌, ◌%◌, ◌<◌, ◌≤◌, ◌==◌, true, false, ◌&&◌, List, get_or, sym, ◌∙◌, ap, inl, inr, arith}
use Rattle.std.specs.Prelude.{nat_lt}
use Rattle.std.specs.Int.{bit_at}
use Rattle.std.proofs.Math.Path.{fun_ext}
use Rattle.std.proofs.lemmas.Bool.{cases_lt}
use Rattle.std.proofs.lemmas.Bool.Decides.{nat_tests}
use Rattle.wordset.specs.Words.{Words, SameWords, all_words, minus, shifted, mirrored}
use Rattle.wordset.specs.Lanes.{words}
use Rattle.wordset.proofs.Tests.{and_first}

pub lt_to : (v : ℕ) → v < 4096 → nat_lt v 4096 ≡ true
lt_to v h = grind (arith, nat_tests)

to_lt : (v : ℕ) → nat_lt v 4096 ≡ true → v < 4096
to_lt v e = grind (arith, nat_tests)

ge_to : (v : ℕ) → 4096 ≤ v → nat_lt v 4096 ≡ false
ge_to v h = grind (arith, nat_tests)

-- sets that are equal have the same words
pub same_words : {a b : Words} → a ≡ b → SameWords a b
same_words e v h = ap (λ t. t v) e

-- tests that agree below 4096 and pass no larger number are equal
pub equal_words : (a b : Words) → ((v : ℕ) → 4096 ≤ v → a v ≡ false) → ((v : ℕ) → 4096 ≤ v → b v ≡ false) → SameWords a b → a ≡ b
equal_words a b none other same = fun_ext (λ v. elim (cases_lt v 4096) [ inl l ↦ same v l | inr g ↦ none v g ∙ sym (other v g) ])

pub all_past : (v : ℕ) → 4096 ≤ v → all_words v ≡ false
all_past v h = ge_to v h

-- tests that agree below 4096 are equal where no larger number counts
abbrev pub closed : Words → Words
closed a v = nat_lt v 4096 && a v

pub same_closed : {a b : Words} → SameWords a b → closed a ≡ closed b
same_closed {a} {b} same = fun_ext (λ v. elim (cases_lt v 4096) [
  | inl l ↦ ap (λ p. nat_lt v 4096 && p) (same v l)
  | inr g ↦ ap (λ p. p && a v) (ge_to v g) ∙ sym (ap (λ p. p && b v) (ge_to v g))
])

pub closed_past : (a : Words) (v : ℕ) → 4096 ≤ v → (nat_lt v 4096 && a v) ≡ false
closed_past a v g = ap (λ p. p && a v) (ge_to v g)

pub closed_at : (a : Words) (v : ℕ) → v < 4096 → (nat_lt v 4096 && a v) ≡ a v
closed_at a v h = ap (λ p. p && a v) (lt_to v h)

-- what a shift and the complements say of a word
pub shift_at : (s a : Words) (k : ℕ) → s ≡ shifted a k → (v : ℕ) → v < 4096 → s v ≡ a (minus v k)
shift_at s a k e v h = ap (λ t. t v) e ∙ closed_at (λ u. a (minus u k)) v h

pub mirror_at : (s a : Words) → s ≡ mirrored a → (v : ℕ) → v < 4096 → s v ≡ a (4095 - v)
mirror_at s a e v h = ap (λ t. t v) e ∙ closed_at (λ u. a (4095 - u)) v h

-- a word of a set is below 4096, and a word's test is its bit
pub words_bit : (lanes : List ℕ) (v : ℕ) → v < 4096 → words lanes v ≡ (bit_at (get_or lanes (v / 64) 0) (v % 64) == 1)
unfolding words
words_bit lanes v h = ap (λ p. p && (bit_at (get_or lanes (v / 64) 0) (v % 64) == 1)) (lt_to v h)

pub words_past : (lanes : List ℕ) (v : ℕ) → 4096 ≤ v → words lanes v ≡ false
unfolding words
words_past lanes v h = ap (λ p. p && (bit_at (get_or lanes (v / 64) 0) (v % 64) == 1)) (ge_to v h)

pub word_small : (lanes : List ℕ) (v : ℕ) → words lanes v ≡ true → v < 4096
unfolding words
word_small lanes v e = to_lt v (and_first (nat_lt v 4096) (bit_at (get_or lanes (v / 64) 0) (v % 64) == 1) e)

-- the set of the lanes is an image that passes no larger number
pub words_are : (lanes : List ℕ) (image : Words) → ((v : ℕ) → 4096 ≤ v → image v ≡ false) → SameWords (words lanes) image → words lanes ≡ image
words_are lanes image none same = equal_words (words lanes) image (words_past lanes) none same

pub words_that : (lanes : List ℕ) (a : Words) → SameWords (words lanes) a → words lanes ≡ closed a
words_that lanes a same = words_are lanes (closed a) (closed_past a) (λ v h. same v h ∙ sym (closed_at a v h))
