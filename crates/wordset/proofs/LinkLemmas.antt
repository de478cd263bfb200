-- Sets of links and of carries, by what they say of 0 and of 1.
use Rattle.std.proofs.Common.{◌≡◌, ℕ, zero, suc, ◌≤◌, ◌==◌, Bool, false, refl, sym, ◌∙◌, arith}
use Rattle.std.specs.Prelude.{if◌then◌else◌}
use Rattle.std.proofs.Math.Path.{fun_ext}
use Rattle.std.proofs.lemmas.Bool.{ne_eqb}
use Rattle.wordset.specs.Words.{Words}

-- a test of 0 and 1 alone
abbrev two : Bool → Bool → Words
two a b k = if k == 0 then a else (if k == 1 then b else false)

pub past_two : (a b : Bool) (k : ℕ) → 2 ≤ k → two a b k ≡ false
past_two a b k h = rw (ne_eqb k 0 (λ q. omega arith), ne_eqb k 1 (λ q. omega arith)) refl

pub two_are : (a b : Bool) (image : Words) → a ≡ image 0 → b ≡ image 1 → ((k : ℕ) → 2 ≤ k → image k ≡ false) → two a b ≡ image
two_are a b image zeroth first past = fun_ext go
  where
    go : (k : ℕ) → two a b k ≡ image k
    go zero = zeroth
    go (suc zero) = first
    go (suc (suc k)) = past_two a b (suc (suc k)) (omega arith) ∙ sym (past (suc (suc k)) (omega arith))
