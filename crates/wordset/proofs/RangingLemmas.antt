-- The last word of a range, by the first word behind it that isn't in the set.
use Rattle.std.proofs.Common.{◌≡◌, ℕ, ◌+◌, ◌-◌, ◌<◌, ◌≤◌, Bool, true, false, not, ◌&&◌, refl, sym, ◌∙◌, ap, inl, inr, arith}
use Rattle.std.proofs.lemmas.Bool.{cases_eq}
use Rattle.wordset.specs.Words.{Words, difference, all_words, IsFirstFrom, HasNoneFrom}
use Rattle.wordset.specs.Ranging.{IsLastFrom}
use Rattle.wordset.proofs.Tests.{true_false, and_second}
use Rattle.wordset.proofs.SetLemmas.{lt_to}

not_true : (p : Bool) → not p ≡ true → p ≡ false
not_true true e = absurd (true_false (sym e))
not_true false e = refl

not_false : (p : Bool) → not p ≡ false → p ≡ true
not_false true e = refl
not_false false e = absurd (true_false e)

-- a word that isn't among the others is in the set
in_set : (set others : Words) (v : ℕ) → others ≡ difference all_words set → v < 4096 → others v ≡ false → set v ≡ true
in_set set others v is h e = not_false (set v) (ap (λ p. p && not (set v)) (sym (lt_to v h)) ∙ sym (ap (λ s. s v) is) ∙ e)

within : (set others : Words) (first : ℕ) → others ≡ difference all_words set → set first ≡ true → (v : ℕ) → first ≤ v → v < 4096 → (first + 1 ≤ v → others v ≡ false) → set v ≡ true
within set others first is has v from small none = elim (cases_eq v first) [
  | inl e ↦ ap set e ∙ has
  | inr n ↦ in_set set others v is small (none (omega arith))
]

pub last_before : (set others : Words) (first next last : ℕ) → others ≡ difference all_words set → set first ≡ true → IsFirstFrom (first + 1) others next → last ≡ next - 1 → IsLastFrom first set last
last_before set others first next last is has found e = record {
  small = omega (arith, e, found.small);
  reached = omega (arith, e, found.reached);
  within = λ v from to. within set others first is has v from (omega (arith, e, to, found.small)) (λ h. found.before v h (omega (arith, e, to, found.reached)));
  ended = λ _.
      let behind : last + 1 ≡ next = omega (arith, e, found.reached) in
      ap set behind ∙ not_true (set next) (and_second (all_words next) (not (set next)) (sym (ap (λ s. s next) is) ∙ found.within));
}

pub last_of_all : (set others : Words) (first last : ℕ) → others ≡ difference all_words set → set first ≡ true → first < 4096 → HasNoneFrom (first + 1) others → last ≡ 4095 → IsLastFrom first set last
last_of_all set others first last is has low none e = record {
  small = omega (arith, e);
  reached = omega (arith, e, low);
  within = λ v from to. let small : v < 4096 = omega (arith, e, to) in within set others first is has v from small (λ h. none v h small);
  ended = λ h. absurd (omega (arith, e, h));
}
