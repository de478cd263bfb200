-- Two tests at once, and a union one number longer.
use Rattle.std.proofs.Common.{◌≡◌, ℕ, ◌+◌, Bool, true, false, ◌&&◌, ◌||◌, sym, ap, ◌∙◌, refl}
use Rattle.wordset.proofs.LaneBits.{or_false}
use Rattle.wordset.proofs.Tests.{or_right, some_more}
use Rattle.wordset.specs.Words.{some_below}

-- one step of a union over numbers
pub some_step : (n : ℕ) (test : ℕ → Bool) (old new : Bool) → old ≡ some_below n test → new ≡ (old || test n) → new ≡ some_below (n + 1) test
some_step n test old new e h = h ∙ ap (λ b. b || test n) e ∙ swap (some_below n test) (test n) ∙ sym (some_more n test)
  where
    swap : (a b : Bool) → (a || b) ≡ (b || a)
    swap true b = sym (or_right b true refl)
    swap false b = sym (or_false b)

-- both tests
pub and_both : {a b c d : Bool} → a ≡ c → b ≡ d → (a && b) ≡ (c && d)
and_both {a} {b} {c} {d} e f = ap (λ x. x && b) e ∙ ap (λ y. c && y) f

-- one of the tests
pub or_both : {a b c d : Bool} → a ≡ c → b ≡ d → (a || b) ≡ (c || d)
or_both {a} {b} {c} {d} e f = ap (λ x. x || b) e ∙ ap (λ y. c || y) f
