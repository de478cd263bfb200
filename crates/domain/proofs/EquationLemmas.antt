-- What an equation of a fact leaves to its two names: each is a word of the other that is so much more or less.
use Rattle.std.proofs.Common.{◌≡◌, ℕ, ◌+◌, ◌-◌, ◌*◌, ◌%◌, ◌<◌, ◌==◌, true, ◌&&◌, List, refl, sym, ap, ◌∙◌, arith}
use Rattle.std.specs.Prelude.{Some}
use Rattle.std.proofs.lemmas.Bool.{eq-eqb, eqb-true}
use Rattle.wordset.specs.Words.{Words, SameWords, some_below, minus, shifted, sums, one, only, meet}
use Rattle.wordset.specs.Lanes.{words}
use Rattle.wordset.proofs.Tests.{some_from, some_to, IsSome, both_ways, and_both, and_first, and_second}
use Rattle.wordset.proofs.Firsts.{IsOnly, only_word}
use Rattle.wordset.proofs.SetLemmas.{closed_at}
use Rattle.processor.specs.Runs.{Image}
use Rattle.domain.specs.Locations.{Location, same}
use Rattle.domain.specs.Terms.{sum_of_name, difference_of}
use Rattle.domain.specs.Facts.{Fact, OfSums}
use Rattle.domain.specs.Adding.{times, differences, adding, adding_all}
use Rattle.domain.specs.Knowing.{said_of}
use Rattle.domain.specs.Narrowing.{parts_of}
use Rattle.domain.proofs.NameAskedLemmas.{told_here, meet_below}

-- A sum of one word and a word of a set.
sum_with_one : (a b : Words) (k v : ℕ) → IsOnly a k → v < 4096 → sums a b v ≡ b (minus v k)
sum_with_one a b k v is h = closed_at (λ u. some_below 4096 (λ x. a x && b (minus u x))) v h ∙ both_ways (some_below 4096 (λ x. a x && b (minus v x))) (b (minus v k))
    (λ t. let s : IsSome 4096 (λ x. a x && b (minus v x)) = some_to 4096 (λ x. a x && b (minus v x)) t in
    let same : s.at ≡ k = is.lone s.at s.small (and_first (a s.at) (b (minus v s.at)) s.holds) in
    ap (λ x. b (minus v x)) (sym same) ∙ and_second (a s.at) (b (minus v s.at)) s.holds)
    (λ t. some_from 4096 (λ x. a x && b (minus v x)) k is.small (and_both (a k) (b (minus v k)) is.within t))

-- The negative of a word is in the negatives of a set where the word is in the set.
negative_of : (a : Words) (u : ℕ) → u < 4096 → times 4095 a u ≡ a (minus 0 u)
negative_of a u h = both_ways (times 4095 a u) (a (minus 0 u))
    (λ t. let s : IsSome 4096 (λ x. a x && (u == (4095 * x) % 4096)) = some_to 4096 (λ x. a x && (u == (4095 * x) % 4096)) t in
    let small : s.at < 4096 = s.small in
    let same : u ≡ (4095 * s.at) % 4096 = eqb-true u ((4095 * s.at) % 4096) (and_second (a s.at) (u == (4095 * s.at) % 4096) s.holds) in
    let back : minus 0 u ≡ s.at = omega arith in
    ap a back ∙ and_first (a s.at) (u == (4095 * s.at) % 4096) s.holds)
    (λ t. let small : minus 0 u < 4096 = omega arith in
    let there : u ≡ (4095 * minus 0 u) % 4096 = omega arith in
    some_from 4096 (λ x. a x && (u == (4095 * x) % 4096)) (minus 0 u) small (and_both (a (minus 0 u)) (u == (4095 * minus 0 u) % 4096) t (eq-eqb u ((4095 * minus 0 u) % 4096) there)))

-- Once a word is the word.
once_of : (a : Words) (u : ℕ) → u < 4096 → times 1 a u ≡ a u
once_of a u h = both_ways (times 1 a u) (a u)
    (λ t. let s : IsSome 4096 (λ x. a x && (u == (1 * x) % 4096)) = some_to 4096 (λ x. a x && (u == (1 * x) % 4096)) t in
    let small : s.at < 4096 = s.small in
    let same : u ≡ (1 * s.at) % 4096 = eqb-true u ((1 * s.at) % 4096) (and_second (a s.at) (u == (1 * s.at) % 4096) s.holds) in
    let back : u ≡ s.at = omega arith in
    ap a back ∙ and_first (a s.at) (u == (1 * s.at) % 4096) s.holds)
    (λ t. some_from 4096 (λ x. a x && (u == (1 * x) % 4096)) u h (and_both (a u) (u == (1 * u) % 4096) t (eq-eqb u ((1 * u) % 4096) (omega arith))))

-- The words of the first name: those of the second, each with the number added.
pub first_of_equation : (set a : Words) (k : ℕ) → only set ≡ Some k → SameWords (λ v. differences set (times 4095 a) ((1 * v) % 4096)) (shifted a k)
first_of_equation set a k e v h =
    let is : IsOnly set k = only_word set k e in
    let small : k < 4096 = is.small in
    let once : (1 * v) % 4096 ≡ v = omega arith in
    let low : minus v k < 4096 = omega arith in
    let negative : minus 0 (minus v k) < 4096 = omega arith in
    let back : minus 0 (minus 0 (minus v k)) ≡ minus v k = omega arith in
    ap (λ u. differences set (times 4095 a) u) once ∙ sum_with_one set (times 4095 (times 4095 a)) k v is h ∙ negative_of (times 4095 a) (minus v k) low
    ∙ negative_of a (minus 0 (minus v k)) negative ∙ ap a back ∙ sym (closed_at (λ u. a (minus u k)) v h)

-- The words of the second name: those of the first, each less the number.
pub second_of_equation : (set a : Words) (k : ℕ) → only set ≡ Some k → SameWords (λ v. differences set (times 1 a) ((4095 * v) % 4096)) (shifted a (minus 0 k))
second_of_equation set a k e v h =
    let is : IsOnly set k = only_word set k e in
    let small : k < 4096 = is.small in
    let u : ℕ = (4095 * v) % 4096 in
    let u_low : (4095 * v) % 4096 < 4096 = omega arith in
    let low : minus ((4095 * v) % 4096) k < 4096 = omega arith in
    let negative : minus 0 (minus ((4095 * v) % 4096) k) < 4096 = omega arith in
    let back : minus 0 (minus ((4095 * v) % 4096) k) ≡ minus v (minus 0 k) = omega arith in
    sum_with_one set (times 4095 (times 1 a)) k ((4095 * v) % 4096) is u_low ∙ negative_of (times 1 a) (minus ((4095 * v) % 4096) k) low
    ∙ once_of a (minus 0 (minus ((4095 * v) % 4096) k)) negative ∙ ap a back ∙ sym (closed_at (λ u. a (minus u (minus 0 k))) v h)

-- What the relation says of its two names.
pub parts_of_difference : (image : Image) (own f : Fact) (l r : Location) (set : Words) →
    adding OfSums (record { sum = sum_of_name r; set = λ v. differences set (times 1 (own.set l)) ((4095 * v) % 4096) })
    (adding OfSums (record { sum = sum_of_name l; set = λ v. differences set (times 4095 (own.set r)) ((1 * v) % 4096) }) f) ≡
    adding_all OfSums (parts_of image own (difference_of l r) set) f
unfolding said_of
parts_of_difference image own f l r set = refl

-- The words of a name that are words of another with the number added.
pub moved_here : (f : Fact) (n m : Location) (lanes : List ℕ) (set moved p : Words) → same n m ≡ true → SameWords set moved → words lanes ≡ f.set n →
    p ≡ meet (words lanes) moved → p ≡ (adding OfSums (record { sum = sum_of_name m; set = set }) f).set n
moved_here f n m lanes set moved p e alike h q = q ∙ meet_below lanes moved set (λ v l. sym (alike v l)) ∙ told_here f n m lanes set (meet (words lanes) set) e h refl
