-- An address without a fact.
use Rattle.std.proofs.Common.{◌≡◌, List, [], ◌∷◌, refl, length, arith}

-- a list of no length has nothing
pub no_facts : {X : Type 0} → (xs : List X) → length xs ≡ 0 → xs ≡ []
no_facts [] e = refl
no_facts (x ∷ xs) e = absurd (omega (arith, e))
