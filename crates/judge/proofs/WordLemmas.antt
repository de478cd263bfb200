-- One word alone is one word.
use Rattle.std.proofs.Common.{◌≡◌, ℕ, ◌<◌, ◌≤◌, true, refl, zero, suc, arith}
use Rattle.std.specs.Prelude.{◌==◌}
use Rattle.std.proofs.lemmas.Bool.{eq-eqb, ne_eqb, cases_eq}
use Rattle.std.proofs.Common.{false, inl, inr}
use Rattle.wordset.specs.Words.{how_many, one}

count_none : (n w : ℕ) → n ≤ w → how_many n (one w) ≡ 0
unfolding how_many
count_none zero w le = refl
count_none (suc n) w le =
    let other : (n == w) ≡ false = ne_eqb n w (λ q. omega arith) in
    let rest : how_many n (one w) ≡ 0 = count_none n w (omega arith) in rw (other, rest) refl

pub count_one : (n w : ℕ) → w < n → how_many n (one w) ≡ 1
unfolding how_many
count_one zero w lt = absurd (omega arith)
count_one (suc n) w lt = elim (cases_eq n w) [
  | inl e ↦ (let here : (n == w) ≡ true = eq-eqb n w e in let rest : how_many n (one w) ≡ 0 = count_none n w (omega arith) in rw (here, rest) refl)
  | inr ne ↦ (let other : (n == w) ≡ false = ne_eqb n w ne in let rest : how_many n (one w) ≡ 1 = count_one n w (omega arith) in rw (other, rest) refl)
]
