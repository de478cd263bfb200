-- Texts of lines, and lines in the other order.
use Rattle.std.proofs.Common.{◌≡◌, ℕ, List, [], ◌∷◌, ◌++◌, sym, append_assoc}
use Rattle.certificate_lines.specs.FieldSpelling.{ended}
use Rattle.certificate_lines.specs.RisingLists.{Each}

pub seam : (a b : List ℕ) → a ++ 10 ∷ b ≡ ended a ++ b
seam a b = sym (append_assoc a (10 ∷ []) b)

pub each_append : {A : Type 0} (p : A → Type 0) (xs ys : List A) → Each p xs → Each p ys → Each p (xs ++ ys)
each_append p [] ys h g = g
each_append p (x ∷ xs) ys h g = (h.0, each_append p xs ys h.1 g)
