-- The one target of a direct reference.
use Rattle.std.proofs.Common.{◌≡◌, ℕ, ◌<◌, Some, refl, arith}
use Rattle.std.proofs.lemmas.Bool.{eq-eqb, ne_eqb}
use Rattle.wordset.specs.Words.{one, only}
use Rattle.wordset.proofs.Firsts.{only_next}

pub direct_only : (n : ℕ) → n < 4096 → Some n ≡ only (one n)
direct_only n lt = only_next (one n) n
    (record { small = lt; reached = omega arith; within = eq-eqb n n refl; before = λ v f l. ne_eqb v n (λ q. omega arith) })
    (λ v f l. ne_eqb v n (λ q. omega arith))
