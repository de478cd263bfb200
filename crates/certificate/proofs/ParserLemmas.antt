-- A certificate's text taken byte by byte.
use Rattle.std.proofs.Common.{◌≡◌, ℕ, ◌≤◌, ◌==◌, true, sym, arith}
use Rattle.std.proofs.lemmas.Bool.{eqb-true}

pub is_full : (n most : ℕ) → true ≡ (n == most) → most ≤ n
is_full n most e = let z : n ≡ most = eqb-true n most (sym e) in omega arith
