-- Chains.
use Rattle.std.proofs.Common.{◌≡◌, ℕ, Bool, true, false, ◌||◌, refl, sym, ap, ◌∙◌}
use Rattle.wordset.specs.Words.{some_below}

-- A test of both links.
pub two_links : (test : ℕ → Bool) → (test 1 || test 0) ≡ some_below 2 test
unfolding some_below
two_links test = ap (λ b. test 1 || b) (go (test 0))
  where
    go : (a : Bool) → a ≡ (a || false)
    go true = refl
    go false = refl

pub either_first : (r a b : Bool) → r ≡ a → r ≡ true → r ≡ (a || b)
either_first r true b e t = e
either_first r false b e t = absurd (let q : true ≡ false = sym t ∙ e in let z : ⊥ = cc in z)

pub either_second : (p r a b : Bool) → p ≡ a → p ≡ false → r ≡ b → r ≡ (a || b)
either_second p r true b e f g = absurd (let q : true ≡ false = sym e ∙ f in let z : ⊥ = cc in z)
either_second p r false b e f g = g
