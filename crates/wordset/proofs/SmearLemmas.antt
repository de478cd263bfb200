-- Sums of two sets, range by range of the one of them.
use Rattle.std.proofs.Common.{◌≡◌, ℕ, ◌+◌, ◌-◌, ◌<◌, ◌≤◌, Bool, true, false, List, ◌&&◌, ◌||◌, refl, sym, ◌∙◌, ap, subst, inl, inr, arith}
use Rattle.std.specs.Prelude.{Some}
use Rattle.std.proofs.lemmas.Bool.{cases_lt}
use Rattle.wordset.specs.Words.{Words, smeared, shifted, minus, some_below, IsFirstFrom, HasNoneFrom}
use Rattle.wordset.specs.Lanes.{words}
use Rattle.wordset.specs.Ranging.{IsLastFrom, RangesFrom, GivesRange}
use Rattle.wordset.specs.declared.ranges.Ranges.{Ranges}
use Rattle.wordset.proofs.Tests.{true_false, both_ways, some_from, some_to, some_none, some_last, IsSome, and_both, and_first, and_second, or_left, or_right, or_cases}
use Rattle.wordset.proofs.SetLemmas.{closed_at, words_that}

-- Words a + k for the numbers k below n, whatever is said of larger words.
abbrev pub spread : Words → ℕ → Words
spread a n v = some_below n (λ k. a (minus v k))

-- one number alone changes nothing
pub smeared_once : (lanes : List ℕ) → words lanes ≡ smeared (words lanes) 1
smeared_once lanes = words_that lanes (spread (words lanes) 1) (λ v h. both_ways (words lanes v) (spread (words lanes) 1 v) (forth v h) (back v h))
  where
    forth : (v : ℕ) → v < 4096 → words lanes v ≡ true → spread (words lanes) 1 v ≡ true
    forth v h t = some_from 1 (λ k. words lanes (minus v k)) 0 (omega arith) (let e : minus v 0 ≡ v = omega arith in ap (words lanes) e ∙ t)

    back : (v : ℕ) → v < 4096 → spread (words lanes) 1 v ≡ true → words lanes v ≡ true
    back v h t =
        let s : IsSome 1 (λ k. words lanes (minus v k)) = some_to 1 (λ k. words lanes (minus v k)) t in
        let e : minus v s.at ≡ v = omega (arith, s.small) in
        ap (words lanes) (sym e) ∙ s.holds

-- a spread and the same shifted by at most as much are one that goes further
further : (a : Words) (n k v : ℕ) → k ≤ n → k < 4096 → n ≤ 4096 → v < 4096 → (spread a n v || spread a n (minus v k)) ≡ spread a (n + k) v
further a n k v within small few h = both_ways (spread a n v || spread a n (minus v k)) (spread a (n + k) v) forth back
  where
    forth : (spread a n v || spread a n (minus v k)) ≡ true → spread a (n + k) v ≡ true
    forth t = elim (or_cases (spread a n v) (spread a n (minus v k)) t) [
      | inl l ↦ (let s : IsSome n (λ x. a (minus v x)) = some_to n (λ x. a (minus v x)) l in some_from (n + k) (λ x. a (minus v x)) s.at (omega (arith, s.small)) s.holds)
      | inr r ↦ (let s : IsSome n (λ x. a (minus (minus v k) x)) = some_to n (λ x. a (minus (minus v k) x)) r in
          let e : minus v (s.at + k) ≡ minus (minus v k) s.at = omega (arith, s.small, h, small, few) in
          some_from (n + k) (λ x. a (minus v x)) (s.at + k) (omega (arith, s.small)) (ap a e ∙ s.holds))
    ]

    back : spread a (n + k) v ≡ true → (spread a n v || spread a n (minus v k)) ≡ true
    back t =
        let s : IsSome (n + k) (λ x. a (minus v x)) = some_to (n + k) (λ x. a (minus v x)) t in
        elim (cases_lt s.at n) [
          | inl l ↦ or_left (spread a n v) (spread a n (minus v k)) (some_from n (λ x. a (minus v x)) s.at l s.holds)
          | inr g ↦ (let e : minus (minus v k) (s.at - k) ≡ minus v s.at = omega (arith, s.small, h, small, few, g, within) in
              or_right (spread a n v) (spread a n (minus v k)) (some_from n (λ x. a (minus (minus v k) x)) (s.at - k) (omega (arith, s.small, g, within)) (ap a e ∙ s.holds)))
        ]

pub smeared_more : (lanes : List ℕ) (a found : Words) (n k : ℕ) → found ≡ smeared a n → k ≤ n → k < 4096 → n ≤ 4096
    → words lanes ≡ (λ v. found v || shifted found k v) → words lanes ≡ smeared a (n + k)
smeared_more lanes a found n k is within small few put = words_that lanes (spread a (n + k)) (λ v h.
    let low : minus v k < 4096 = omega (arith, h) in
    ap (λ t. t v) put ∙ ap (λ p. found v || p) (closed_at (λ u. found (minus u k)) v h)
    ∙ ap (λ p. p || found (minus v k)) (ap (λ t. t v) is ∙ closed_at (spread a n) v h)
    ∙ ap (λ p. spread a n v || p) (ap (λ t. t (minus v k)) is ∙ closed_at (spread a n) (minus v k) low)
    ∙ further a n k v within small few h)

-- The sums of those words of a set that the iterator has given and of another set.
pub record Summed (set other found : Words) (it : Ranges) : Type 0 where
  pub same : words it.set.now ≡ set
  pub inside : it.next ≤ 4096
  pub so_far : (v : ℕ) → v < 4096 → found v ≡ some_below it.next (λ x. set x && other (minus v x))

pub none_summed : {other found : Words} {lanes : List ℕ} {made it : Ranges} → RangesFrom lanes 0 made → it ≡ made → ((v : ℕ) → found v ≡ false)
    → Summed (words lanes) other found it
none_summed {other} {found} {lanes} {made} {it} begins is none =
    let next : it.next ≡ 0 = ap (λ (i : Ranges). i.next) is ∙ begins.next in
    record {
      same = ap (λ (i : Ranges). words i.set.now) is ∙ ap (λ l. words l) begins.set;
      inside = omega (arith, next);
      so_far = λ v h. none v ∙ sym (ap (λ n. some_below n (λ x. words lanes x && other (minus v x))) next ∙ some_none (λ x. words lanes x && other (minus v x)));
    }

-- What is said of a word after one range more.
range_more : (set other found : Words) (next low high v : ℕ) → v < 4096 → IsFirstFrom next set low → IsLastFrom low set high
    → found v ≡ some_below next (λ x. set x && other (minus v x))
    → (found v || shifted (smeared other (high - low + 1)) low v) ≡ some_below (high + 1) (λ x. set x && other (minus v x))
range_more set other found next low high v h first last so = ap (λ p. found v || p) there
    ∙ both_ways (found v || spread other (high - low + 1) (minus v low)) (some_below (high + 1) test) forth back
  where
    test : ℕ → Bool
    test x = set x && other (minus v x)

    there : shifted (smeared other (high - low + 1)) low v ≡ spread other (high - low + 1) (minus v low)
    there = closed_at (λ u. smeared other (high - low + 1) (minus u low)) v h ∙ closed_at (spread other (high - low + 1)) (minus v low) (omega (arith, h))

    forth : (found v || spread other (high - low + 1) (minus v low)) ≡ true → some_below (high + 1) test ≡ true
    forth t = elim (or_cases (found v) (spread other (high - low + 1) (minus v low)) t) [
      | inl l ↦ (let s : IsSome next test = some_to next test (sym so ∙ l) in some_from (high + 1) test s.at (omega (arith, s.small, first.reached, last.reached)) s.holds)
      | inr r ↦ (let s : IsSome (high - low + 1) (λ k. other (minus (minus v low) k)) = some_to (high - low + 1) (λ k. other (minus (minus v low) k)) r in
          let e : minus v (low + s.at) ≡ minus (minus v low) s.at = omega (arith, s.small, h, first.small, last.small) in
          some_from (high + 1) test (low + s.at) (omega (arith, s.small, last.reached))
          (and_both (set (low + s.at)) (other (minus v (low + s.at))) (last.within (low + s.at) (omega arith) (omega (arith, s.small, last.reached))) (ap other e ∙ s.holds)))
    ]

    back : some_below (high + 1) test ≡ true → (found v || spread other (high - low + 1) (minus v low)) ≡ true
    back t =
        let s : IsSome (high + 1) test = some_to (high + 1) test t in
        elim (cases_lt s.at next) [
          | inl l ↦ or_left (found v) (spread other (high - low + 1) (minus v low)) (so ∙ some_from next test s.at l s.holds)
          | inr g ↦ elim (cases_lt s.at low) [
            | inl b ↦ absurd (true_false (sym (and_first (set s.at) (other (minus v s.at)) s.holds) ∙ first.before s.at g b))
            | inr o ↦ (let e : minus (minus v low) (s.at - low) ≡ minus v s.at = omega (arith, s.small, h, first.small, last.small, o) in
                or_right (found v) (spread other (high - low + 1) (minus v low)) (some_from (high - low + 1) (λ k. other (minus (minus v low) k)) (s.at - low)
                (omega (arith, s.small, o, last.reached)) (ap other e ∙ and_second (set s.at) (other (minus v s.at)) s.holds)))
          ]
        ]

pub one_summed : {set other found more : Words} {it after : Ranges} {low high : ℕ} → Summed set other found it → GivesRange it (Some (low, high)) after
    → ((v : ℕ) → more v ≡ (found v || shifted (smeared other (high - low + 1)) low v)) → Summed set other more after
one_summed {set} {other} {found} {more} {it} {after} {low} {high} before gives put =
    let first : IsFirstFrom it.next set low = subst (λ s. IsFirstFrom it.next s low) before.same gives.0 in
    let last : IsLastFrom low set high = subst (λ s. IsLastFrom low s high) before.same gives.1 in
    record {
      same = ap (λ l. words l) gives.2.set ∙ before.same;
      inside = omega (arith, gives.2.next, last.small);
      so_far = λ v h. put v ∙ range_more set other found it.next low high v h first last (before.so_far v h)
          ∙ ap (λ n. some_below n (λ x. set x && other (minus v x))) (sym gives.2.next);
    }

pub all_summed : {set other found : Words} {it : Ranges} → Summed set other found it → HasNoneFrom it.next (words it.set.now)
    → (v : ℕ) → v < 4096 → found v ≡ some_below 4096 (λ x. set x && other (minus v x))
all_summed {set} {other} {found} {it} before none v h =
    let left : HasNoneFrom it.next set = subst (λ s. HasNoneFrom it.next s) before.same none in
    before.so_far v h ∙ some_last it.next set (λ x. other (minus v x)) _ before.inside left refl
