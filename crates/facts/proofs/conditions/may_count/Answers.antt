use Rattle.std.proofs.Common.{◌≡◌, ℕ, ◌<◌, ◌≤◌, false, subst}
use Rattle.std.specs.Prelude.{IsTrue, ◌↔◌}
use Rattle.wordset.specs.Words.{Words}
use Rattle.facts.proofs.conditions.may_count.Goals as goal

pub returns-in-OfEquations : goal.returns-in-OfEquations
returns-in-OfEquations g c =
    rw c.in-OfEquations.is (subst (λ (w : Words). IsTrue c.are_below_seven.result ↔ ((o : ℕ) → 7 ≤ o → o < 64 → w o ≡ false)) c.offsets.ensures c.are_below_seven.ensures)
