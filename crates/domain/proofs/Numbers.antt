-- Sums and products modulo 4096, and the words of sets that are made of others.
use Rattle.std.proofs.Common.{◌≡◌, ℕ, ◌+◌, ◌*◌, ◌%◌, ◌<◌, true, ◌==◌, ◌&&◌, refl, sym, ◌∙◌, ap, arith}
use Rattle.std.proofs.Math.Nat.{mod-add-mod, add-mod-mod}
use Rattle.std.proofs.lemmas.Nat.{mul-mod_first, mul-mod_second}
use Rattle.std.proofs.lemmas.Bool.{and_from, eq-eqb, lt-ltb}
use Rattle.wordset.specs.Words.{plus, minus, Words, shifted, sums}
use Rattle.wordset.proofs.Tests.{some_from}
use Rattle.domain.specs.Adding.{times, differences}

pub plus_lt : (a b : ℕ) → plus a b < 4096
plus_lt a b = omega arith

pub plus_zero : (a : ℕ) → a < 4096 → plus 0 a ≡ a
plus_zero a h = omega arith

pub plus_swap : (a b c : ℕ) → plus a (plus b c) ≡ plus b (plus a c)
plus_swap a b c = omega arith

pub plus_assoc : (a b c : ℕ) → plus (plus a b) c ≡ plus a (plus b c)
plus_assoc a b c = omega arith

pub plus_first : (a b : ℕ) → plus (a % 4096) b ≡ plus a b
plus_first a b = mod-add-mod a 4096 b

pub minus_plus : (a k : ℕ) → a < 4096 → minus (plus a k) k ≡ a
minus_plus a k h = omega arith

pub minus_other : (a b : ℕ) → b < 4096 → a < 4096 → minus (plus a b) a ≡ b
minus_other a b h g = omega arith

-- a coefficient counts modulo 4096
pub coefficient_word : (c x r : ℕ) → plus (c % 4096 * x) r ≡ plus (c * x) r
coefficient_word c x r = sym (plus_first (c % 4096 * x) r) ∙ ap (λ m. plus m r) (mul-mod_first c x 4096) ∙ plus_first (c * x) r

-- so does the word that is multiplied, and a product that is added
pub product_word : (c x r : ℕ) → plus (c * (x % 4096)) r ≡ plus (c * x) r
product_word c x r = sym (plus_first (c * (x % 4096)) r) ∙ ap (λ m. plus m r) (mul-mod_second c x 4096) ∙ plus_first (c * x) r

pub product_second : (a c x : ℕ) → plus a (c % 4096 * x) ≡ plus a (c * x)
product_second a c x = sym (add-mod-mod a (c % 4096 * x) 4096) ∙ ap (λ m. plus a m) (mul-mod_first c x 4096) ∙ add-mod-mod a (c * x) 4096

-- two coefficients of one term
pub coefficients_both : (c d x r : ℕ) → plus (plus c d * x) r ≡ plus (c * x) (plus (d * x) r)
coefficients_both c d x r = coefficient_word (c + d) x r ∙ omega arith

-- a multiple of a sum
pub multiple : (c d x r : ℕ) → plus (c * d % 4096 * x) (c * r % 4096) ≡ c * plus (d * x) r % 4096
multiple c d x r = coefficient_word (c * d) x (c * r % 4096) ∙ (add-mod-mod (c * d * x) (c * r) 4096 ∙ (ap (λ m. m % 4096) parts ∙ sym (mul-mod_second c (d * x + r) 4096)))
  where
    parts : c * d * x + c * r ≡ c * (d * x + r)
    parts = omega arith

-- minus one times minus one
pub sign_twice : (x : ℕ) → x < 4096 → 4095 * (4095 * x % 4096) % 4096 ≡ x
sign_twice x h = omega arith

-- a word of a set, shifted by k
pub shifted_in : (s : Words) (k x : ℕ) → x < 4096 → s x ≡ true → shifted s k (plus x k) ≡ true
shifted_in s k x h e = and_from _ _ (lt-ltb (plus x k) 4096 (plus_lt x k)) (ap s (minus_plus x k h) ∙ e)

-- a sum of words of two sets
pub sums_in : (a b : Words) (x y : ℕ) → x < 4096 → y < 4096 → a x ≡ true → b y ≡ true → sums a b (plus x y) ≡ true
sums_in a b x y h g p q = and_from _ _ (lt-ltb (plus x y) 4096 (plus_lt x y)) (some_from 4096 (λ n. a n && b (minus (plus x y) n)) x h (and_from _ _ p (ap b (minus_other x y g h) ∙ q)))

-- a multiple of a word of a set
pub times_in : (c : ℕ) (a : Words) (x : ℕ) → x < 4096 → a x ≡ true → times c a (c * x % 4096) ≡ true
times_in c a x h p = some_from 4096 (λ n. a n && (c * x % 4096 == c * n % 4096)) x h (and_from _ _ p (eq-eqb (c * x % 4096) (c * x % 4096) refl))

-- a difference of words of two sets
pub differences_in : (a b : Words) (x y v : ℕ) → x < 4096 → y < 4096 → v < 4096 → plus v y ≡ x → a x ≡ true → b y ≡ true → differences a b v ≡ true
differences_in a b x y v h g l e p q = ap (λ n. differences a b n) whole ∙ sums_in a (times 4095 b) x (4095 * y % 4096) h (small y) p (times_in 4095 b y g q)
  where
    whole : v ≡ plus x (4095 * y % 4096)
    whole = omega arith

    small : (y : ℕ) → 4095 * y % 4096 < 4096
    small y = omega arith
