-- Tests that fail.
use Rattle.std.proofs.Common.{◌≡◌, ◌∙◌, Bool, false, sym}
use Rattle.std.specs.Prelude.{◌↔◌, IsTrue}
use Rattle.std.proofs.lemmas.Bool.{false≢true, true≢false}

-- what needs something that fails does not hold
pub fails_with : {P Q : Type 0} (test : Bool) → test ≡ false → (P → IsTrue test) → (Q → P) → IsTrue false ↔ Q
fails_with test fails told needs = (λ q. absurd (false≢true q), λ each. absurd (true≢false (sym (told (needs each)) ∙ fails)))
