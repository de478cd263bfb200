-- How many words a set has, lane by lane.
use Rattle.std.proofs.Common.{◌≡◌, ℕ, zero, suc, ◌+◌, ◌*◌, ◌%◌, ◌^◌, ◌<◌, ◌≤◌, ◌==◌, Bool, true, false, List, get_or, refl, sym, ◌∙◌, ap, arith, add-suc, add-zero}
use Rattle.std.specs.Prelude.{if◌then◌else◌}
use Rattle.std.specs.Int.{bit_at}
use Rattle.std.proofs.lemmas.Nat.{pow_pos, mod-pow-add}
use Rattle.std.proofs.lemmas.Nat.Bits.{bit_at-lt}
use lib.Count.{ones, ones_cat}
use Rattle.wordset.specs.Words.{how_many}
use Rattle.wordset.specs.Lanes.{words, AreLanes}
use Rattle.wordset.proofs.LaneBits.{words_at}

one_bit : (b : ℕ) → b < 2 → ones b ≡ (if b == 1 then 1 else 0)
unfolding ones
one_bit zero h = refl
one_bit (suc zero) h = refl
one_bit (suc (suc b)) h = absurd (omega arith)

none : ones 0 ≡ 0
unfolding ones
none = refl

pub ones-bits : (n k : ℕ) → ones (n % 2 ^ k) ≡ how_many k (λ j. bit_at n j == 1)
unfolding how_many
ones-bits n zero = let e : n % 2 ^ 0 ≡ 0 = omega arith in ap ones e ∙ none
ones-bits n (suc k) =
    let e : suc k ≡ 1 + k = omega arith in
    let small : n % 2 ^ k < 2 ^ k = omega (arith, pow_pos k) in
    ap (λ j. ones (n % 2 ^ j)) e ∙ ap ones (mod-pow-add n 1 k) ∙ ones_cat k (bit_at n k) (n % 2 ^ k) small
    ∙ ap (λ m. m + ones (n % 2 ^ k)) (one_bit (bit_at n k) (bit_at-lt n k)) ∙ ap (λ m. (if bit_at n k == 1 then 1 else 0) + m) (ones-bits n k)

pub how_many-add : (m k : ℕ) (test : ℕ → Bool) → how_many (m + k) test ≡ how_many k (λ j. test (m + j)) + how_many m test
unfolding how_many
how_many-add m zero test = rw add-zero (omega arith)
how_many-add m (suc k) test =
    let ih : how_many (m + k) test ≡ how_many k (λ j. test (m + j)) + how_many m test = how_many-add m k test in
    rw add-suc (rw ih (omega arith))

pub how_many_same : (n : ℕ) (a b : ℕ → Bool) → ((v : ℕ) → v < n → a v ≡ b v) → how_many n a ≡ how_many n b
unfolding how_many
how_many_same zero a b h = refl
how_many_same (suc n) a b h =
    let here : a n ≡ b n = h n (omega arith) in
    let rest : how_many n a ≡ how_many n b = how_many_same n a b (λ v lt. h v (omega arith)) in
    ap (λ t. (if t then 1 else 0) + how_many n a) here ∙ ap (λ m. (if b n then 1 else 0) + m) rest

pub how_many-le : (n : ℕ) (test : ℕ → Bool) → how_many n test ≤ n
unfolding how_many
how_many-le zero test = omega arith
how_many-le (suc n) test = go (test n) (how_many-le n test)
  where
    go : (b : Bool) → how_many n test ≤ n → (if b then 1 else 0) + how_many n test ≤ suc n
    go true h = omega arith
    go false h = omega arith

-- the lane at i counts the words from 64 * i on
pub how_many-lane : (lanes : List ℕ) (i : ℕ) → AreLanes lanes → i < 64 → how_many (64 * (i + 1)) (words lanes) ≡ how_many (64 * i) (words lanes) + ones (get_or lanes i 0)
how_many-lane lanes i is low =
    let at : 64 * (i + 1) ≡ 64 * i + 64 = omega arith in
    let whole : get_or lanes i 0 % 2 ^ 64 ≡ get_or lanes i 0 = omega (arith, is.fit i) in
    let bits : how_many 64 (λ j. words lanes (64 * i + j)) ≡ ones (get_or lanes i 0) =
    how_many_same 64 (λ j. words lanes (64 * i + j)) (λ j. bit_at (get_or lanes i 0) j == 1) (λ j h. words_at lanes i j low h) ∙ sym (ones-bits (get_or lanes i 0) 64) ∙ ap ones whole in
    ap (λ n. how_many n (words lanes)) at ∙ how_many-add (64 * i) 64 (words lanes) ∙ omega (arith, bits)

pub how_many-none : (test : ℕ → Bool) → how_many 0 test ≡ 0
unfolding how_many
how_many-none test = refl
