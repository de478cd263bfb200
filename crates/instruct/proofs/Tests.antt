-- A test of a mask, as the code makes it, and the bit that the table speaks of.
use Rattle.std.proofs.Common.{ℕ, ◌<◌, ◌≡◌, ◌+◌, ◌*◌, ◌/◌, ◌%◌, ◌^◌, ◌-◌, ◌≤◌, ◌==◌, zero, suc, arith, refl, lit<, lit≤, rules, ◌∙◌, ap, Bool, true, false, one-mul, zero-mul, eq-eqb}
use Rattle.std.proofs.lemmas.Nat.Bits.{and_pow}
use Rattle.std.proofs.lemmas.Bool.Decides.{nat_tests}
use Rattle.std.specs.Int.RustNames.{bit_and}
use Rattle.instruct.specs.Bits.{has_bit}

-- a bit at its weight is the weight exactly where the bit is 1
weighed : (b w : ℕ) → 0 < w → b < 2 → (b * w == w) ≡ (b == 1)
weighed zero w p h = grind (arith, nat_tests)
weighed (suc zero) w p h = grind (arith, nat_tests)
weighed (suc (suc b)) w p h = absurd (omega arith)

contains_bit : (k n : ℕ) → 0 < 2 ^ k → (bit_and n (2 ^ k) == 2 ^ k) ≡ has_bit k n
contains_bit k n p =
    let small : n / 2 ^ k % 2 < 2 = omega arith in
    rw (and_pow n k) (weighed (n / 2 ^ k % 2) (2 ^ k) p small)

pub contains_1 : (n : ℕ) → (bit_and n 1 == 1) ≡ has_bit 0 n
contains_1 n = contains_bit 0 n (lit< tt)

pub contains_2 : (n : ℕ) → (bit_and n 2 == 2) ≡ has_bit 1 n
contains_2 n = contains_bit 1 n (lit< tt)

pub contains_4 : (n : ℕ) → (bit_and n 4 == 4) ≡ has_bit 2 n
contains_4 n = contains_bit 2 n (lit< tt)

pub contains_8 : (n : ℕ) → (bit_and n 8 == 8) ≡ has_bit 3 n
contains_8 n = contains_bit 3 n (lit< tt)

pub contains_16 : (n : ℕ) → (bit_and n 16 == 16) ≡ has_bit 4 n
contains_16 n = contains_bit 4 n (lit< tt)

pub contains_32 : (n : ℕ) → (bit_and n 32 == 32) ≡ has_bit 5 n
contains_32 n = contains_bit 5 n (lit< tt)

pub contains_64 : (n : ℕ) → (bit_and n 64 == 64) ≡ has_bit 6 n
contains_64 n = contains_bit 6 n (lit< tt)

pub contains_128 : (n : ℕ) → (bit_and n 128 == 128) ≡ has_bit 7 n
contains_128 n = contains_bit 7 n (lit< tt)

pub contains_256 : (n : ℕ) → (bit_and n 256 == 256) ≡ has_bit 8 n
contains_256 n = contains_bit 8 n (lit< tt)

pub ruleset bit_tests = (arith, contains_1, contains_2, contains_4, contains_8, contains_16, contains_32, contains_64, contains_128, contains_256)
