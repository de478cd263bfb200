-- Images under a word that clears the accumulator first: they are the same for every word of a set.
use Rattle.std.proofs.Common.{◌≡◌, ℕ, ◌==◌, zero, suc, Bool, true, false, not, ◌&&◌, ◌||◌, refl, sym, ap, ◌∙◌, lit<}
use Rattle.std.specs.Prelude.{if◌then◌else◌}
use Rattle.std.proofs.Math.Path.{fun_ext}
use Rattle.instruct.specs.Bits.{has_bit}
use Rattle.instruct.specs.Operates.{complemented, counted, rotated, operate1_of}
use Rattle.wordset.specs.Words.{Words, some_below, has_some, one, images_at, images}
use Rattle.wordset.proofs.Tests.{some_from}

-- what the word makes of it doesn't depend on the accumulator
pub cleared_same : (word x l : ℕ) → has_bit 7 word ≡ true → operate1_of word (x, l) ≡ operate1_of word (0, l)
cleared_same word x l h =
    ap (λ (s : ℕ × ℕ). rotated word (counted word (complemented word s)))
    (ap (λ (b : Bool). ((if b then 0 else x), (if has_bit 6 word then 0 else l))) h
    ∙ sym (ap (λ (b : Bool). ((if b then 0 else 0), (if has_bit 6 word then 0 else l))) h))

both_or : (p q b : Bool) → ((p && b) || (q && b)) ≡ ((p || q) && b)
both_or true true true = refl
both_or true true false = refl
both_or true false true = refl
both_or true false false = refl
both_or false q b = refl

-- some word of a set with what is the same for all
some_constant : (n : ℕ) (a p : Words) (b : Bool) → ((x : ℕ) → p x ≡ b) → some_below n (λ x. a x && p x) ≡ (some_below n a && b)
unfolding some_below
some_constant zero a p b h = refl
some_constant (suc n) a p b h =
    ap (λ q. (a n && q) || some_below n (λ x. a x && p x)) (h n)
    ∙ ap (λ q. (a n && b) || q) (some_constant n a p b h)
    ∙ both_or (a n) (some_below n a) b

-- the images of two sets that have a word
pub images_same : (f : ℕ → ℕ → ℕ) (a b links : Words) → ((x l : ℕ) → f x l ≡ f 0 l) → has_some a ≡ true → has_some b ≡ true → images f a links ≡ images f b links
unfolding some_below
images_same f a b links same some other = fun_ext (λ v.
    let at : (l : ℕ) → images_at (λ x. f x l) a v ≡ images_at (λ x. f x l) b v = λ l.
    some_constant 4096 a (λ x. v == f x l) (v == f 0 l) (λ x. ap (λ n. v == n) (same x l))
    ∙ ap (λ p. p && (v == f 0 l)) (some ∙ sym other)
    ∙ sym (some_constant 4096 b (λ x. v == f x l) (v == f 0 l) (λ x. ap (λ n. v == n) (same x l))) in
    ap (λ p. (links 1 && p) || ((links 0 && images_at (λ x. f x 0) a v) || false)) (at 1)
    ∙ ap (λ p. (links 1 && images_at (λ x. f x 1) b v) || ((links 0 && p) || false)) (at 0))

-- one word is some
pub one_some : has_some (one 0) ≡ true
one_some = some_from 4096 (one 0) 0 (lit< tt) refl

-- a set that isn't empty has some
pub not_none : (p : Bool) → not p ≡ false → p ≡ true
not_none true e = refl
not_none false e = sym e
