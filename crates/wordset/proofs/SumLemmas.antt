-- Sums of two sets: either may be gone through, and all words plus a word are all words.
use Rattle.std.proofs.Common.{◌≡◌, ℕ, ◌<◌, Bool, true, false, ◌&&◌, refl, sym, ◌∙◌, ap, arith, not}
use Rattle.std.specs.Prelude.{Some}
use Rattle.wordset.specs.Words.{Words, sums, shifted, only, minus, all_words, has_some, some_below}
use Rattle.wordset.proofs.Firsts.{IsOnly, only_word}
use Rattle.wordset.proofs.SetLemmas.{lt_to, all_past, equal_words, same_closed, closed_past, closed_at}
use Rattle.wordset.proofs.Tests.{both_ways, some_from, some_to, IsSome, and_both, and_first, and_second}

-- The sums, whatever is said of larger numbers.
abbrev pub summed : Words → Words → Words
summed a b v = some_below 4096 (λ x. a x && b (minus v x))

half : (a b : Words) (v : ℕ) → v < 4096 → summed a b v ≡ true → summed b a v ≡ true
half a b v h t =
    let s : IsSome 4096 (λ x. a x && b (minus v x)) = some_to 4096 (λ x. a x && b (minus v x)) t in
    let y : ℕ = minus v s.at in
    let small : minus v s.at < 4096 = omega arith in
    let back : minus v (minus v s.at) ≡ s.at = minus_twice v s.at h s.small in
    some_from 4096 (λ x. b x && a (minus v x)) y small (and_both (b y) (a (minus v y)) (and_second (a s.at) (b y) s.holds) (ap a back ∙ and_first (a s.at) (b y) s.holds))
  where
    minus_twice : (v x : ℕ) → v < 4096 → x < 4096 → minus v (minus v x) ≡ x
    minus_twice v x h g = omega arith

-- the order of the two sets is the same to their sums
pub sums_swap : (a b : Words) → sums a b ≡ sums b a
sums_swap a b = same_closed (λ v h. both_ways (summed a b v) (summed b a v) (half a b v h) (half b a v h))

pub sums_all : (a : Words) → has_some a ≡ true → all_words ≡ sums a all_words
sums_all a some = equal_words all_words (sums a all_words) all_past (closed_past (summed a all_words)) (λ v h.
    let s : IsSome 4096 a = some_to 4096 a some in
    let small : minus v s.at < 4096 = omega arith in
    lt_to v h ∙ sym (closed_at (summed a all_words) v h ∙ some_from 4096 (λ x. a x && all_words (minus v x)) s.at s.small (and_both (a s.at) (all_words (minus v s.at)) s.holds (lt_to (minus v s.at) small))))

-- from the answer that a set isn't empty
pub has_some_from : (a : Words) (p : Bool) → p ≡ not (has_some a) → p ≡ false → has_some a ≡ true
has_some_from a p is e = go (has_some a) (sym is ∙ e)
  where
    go : (q : Bool) → not q ≡ false → q ≡ true
    go true e = refl
    go false e = cc

-- the sums with the only word of a set are one shift
pub sums_one : (a b : Words) (w : ℕ) → only a ≡ Some w → shifted b w ≡ sums a b
sums_one a b w e = same_closed (λ v h. both_ways (b (minus v w)) (summed a b v) (forth v) (back v))
  where
    is : IsOnly a w
    is = only_word a w e

    forth : (v : ℕ) → b (minus v w) ≡ true → summed a b v ≡ true
    forth v t = some_from 4096 (λ x. a x && b (minus v x)) w is.small (and_both (a w) (b (minus v w)) is.within t)

    back : (v : ℕ) → summed a b v ≡ true → b (minus v w) ≡ true
    back v t =
        let s : IsSome 4096 (λ x. a x && b (minus v x)) = some_to 4096 (λ x. a x && b (minus v x)) t in
        let it : s.at ≡ w = is.lone s.at s.small (and_first (a s.at) (b (minus v s.at)) s.holds) in
        ap (λ x. b (minus v x)) (sym it) ∙ and_second (a s.at) (b (minus v s.at)) s.holds
