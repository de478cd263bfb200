-- Products of words.
use Rattle.std.proofs.Common.{ℕ, ◌*◌, ◌<◌, ◌≤◌, arith}
use Rattle.std.proofs.Math.Nat.{mul-le-mul_left}

-- The product of two words fits a machine word.
pub fits : (a b : ℕ) → a < 4096 → b < 4096 → a * b < 18446744073709551616
fits a b h k = let le : b ≤ 4096 = omega arith in omega (arith, mul-le-mul_left a le)
