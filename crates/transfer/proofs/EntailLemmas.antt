-- Small steps of tests and of lists, which proofs of entailment take.
use Rattle.std.proofs.Common.{◌≡◌, ℕ, ◌+◌, ◌<◌, Bool, false, Some, None, List, ◌∷◌, drop, get_or, length, sym, ap, ◌∙◌}
use Rattle.std.specs.Prelude.{IsTrue, ◌↔◌}
use Rattle.std.proofs.lemmas.Bool.{true≢false, false≢true}
use Rattle.std.proofs.lemmas.List.{drop_more}

pub not_true : {A : Type 0} → (A → ⊥) → IsTrue false ↔ A
not_true h = (λ t. absurd (false≢true t), λ a. absurd (h a))

pub not_both : {A : Type 0} (b : Bool) → b ≡ false → (A → IsTrue b) → A → ⊥
not_both b e h a = true≢false (sym (h a) ∙ e)

pub none_is : {A : Type 0} {p : A} → None ≡ Some p → ⊥
none_is e = cc

pub some_is : {A : Type 0} {p q : A} → Some p ≡ Some q → p ≡ q
some_is e = cc

-- A list from one of its items on.
pub drop_item : {A : Type 0} (xs : List A) (i : ℕ) (x : A) → i < length xs → x ≡ get_or xs i x → drop i xs ≡ x ∷ drop (i + 1) xs
drop_item xs i x lt e = drop_more xs i x lt ∙ ap (λ y. y ∷ drop (i + 1) xs) (sym e)
