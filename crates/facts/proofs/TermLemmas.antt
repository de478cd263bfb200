-- The word of a sum of terms: one term and the rest of it, and what stays where a name changes.
use Rattle.std.proofs.Common.{◌≡◌, ℕ, ◌*◌, Bool, true, false, not, [], ◌∷◌, refl, sym, ap, ◌∙◌, arith}
use Rattle.std.specs.Prelude.{if◌then◌else◌}
use Rattle.std.proofs.lemmas.Bool.{or_parts, cond_both}
use Rattle.wordset.specs.Words.{plus}
use Rattle.processor.specs.Cells.{Cells}
use Rattle.domain.specs.Locations.{Location, Ac, Cell, same, Values}
use Rattle.domain.specs.Terms.{Term, Holding, Behind, Sum, term_value, sum_value, name_of_term, speaks_of, same_term, coefficient_in, without_term}
use Rattle.domain.proofs.Numbers.{plus_swap, coefficients_both}
use Rattle.domain.proofs.SumLemmas.{same_is}

zero_rest : (t : ℕ) → 0 ≡ plus (0 * t) 0
zero_rest t = omega arith

-- a sum is one of its terms, with its coefficient, and the rest
pub term_apart : (v : Values) (start : Cells) (t : Term) (sum : Sum) →
    sum_value v start sum ≡ plus (coefficient_in t sum * term_value v start t) (sum_value v start (without_term t sum))
term_apart v start t [] = zero_rest (term_value v start t)
term_apart v start t (s ∷ ss) =
    ap (plus (s.coefficient * term_value v start s.term)) (term_apart v start t ss) ∙ go (same_term t s.term) refl
  where
    go : (b : Bool) → same_term t s.term ≡ b →
        plus (s.coefficient * term_value v start s.term) (plus (coefficient_in t ss * term_value v start t) (sum_value v start (without_term t ss))) ≡
        plus ((if b then plus s.coefficient (coefficient_in t ss) else coefficient_in t ss) * term_value v start t)
        (sum_value v start (if not b then s ∷ without_term t ss else without_term t ss))
    go true e =
        let is : t ≡ s.term = same_is t s.term e in
        ap (λ u. plus (s.coefficient * term_value v start u) (plus (coefficient_in t ss * term_value v start t) (sum_value v start (without_term t ss)))) (sym is)
        ∙ sym (coefficients_both s.coefficient (coefficient_in t ss) (term_value v start t) (sum_value v start (without_term t ss)))
    go false e = plus_swap (s.coefficient * term_value v start s.term) (coefficient_in t ss * term_value v start t) (sum_value v start (without_term t ss))

-- a sum without a term speaks of no more names
pub without_less : (names : Location → Bool) (t : Term) (sum : Sum) → speaks_of names sum ≡ false → speaks_of names (without_term t sum) ≡ false
without_less names t [] e = refl
without_less names t (s ∷ ss) e =
    let both = or_parts (names (name_of_term s.term)) (speaks_of names ss) e in
    let rest : speaks_of names (without_term t ss) ≡ false = without_less names t ss both.1 in
    cond_both (not (same_term t s.term)) (s ∷ without_term t ss) (without_term t ss) (λ x. speaks_of names x ≡ false) (λ q. rw (both.0, rest) refl) (λ q. rest)

-- a sum without the accumulator does not speak of it
pub without_ac : (sum : Sum) → speaks_of (λ m. same m Ac) (without_term (Holding Ac) sum) ≡ false
without_ac [] = refl
without_ac (s ∷ ss) = go s.term (without_ac ss)
  where
    go : (t : Term) → speaks_of (λ m. same m Ac) (without_term (Holding Ac) ss) ≡ false → speaks_of (λ m. same m Ac) (if not (same_term (Holding Ac) t) then record { coefficient = s.coefficient; term = t } ∷ without_term (Holding Ac) ss else without_term (Holding Ac) ss) ≡ false
    go (Holding Ac) e = e
    go (Holding (Cell a)) e = e
    go (Behind x k) e = e
