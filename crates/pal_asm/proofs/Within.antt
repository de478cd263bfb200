-- Tokens of a part are within it, and parts are short.
use Rattle.std.proofs.Common.{◌≡◌, ◌∙◌, sym, ap, refl, ℕ, zero, suc, ◌+◌, ◌-◌, ◌<◌, ◌≤◌, List, [], ◌∷◌, Bool, true, false, ◌||◌, Option, Some, None, arith, length, get_or, inl, inr}
use Rattle.std.specs.Prelude.{nat_eq, nat_lt, if◌then◌else◌}
use Rattle.std.specs.Borrow.{Bor}
use Rattle.std.specs.List.{AllByRecursion}
use Rattle.std.proofs.lemmas.Bool.{cond_both, cases_lt, lt-ltb}
use Rattle.pal_text.specs.declared.tokens.Token.{Token}
use Rattle.pal_text.specs.declared.grammar.Form.{Form}
use Rattle.pal_text.specs.declared.grammar.Form.TheVariants as form
use Rattle.pal_text.proofs.Rises.{all_drop}
use Rattle.pal_acts.specs.declared.fault_code.FaultCode.TheVariants.{TooLong}
use Rattle.pal_asm.specs.SourceInCode.{after_tags, operand_by}
use Rattle.pal_asm.specs.Sources.{fault_at, first_long, size_fault, texts}

-- the tokens of a statement, and those of its expression
module _ (P : Token → Type 0) where
  pub body_within : (n : ℕ) (ts : List Token) → AllByRecursion P ts → AllByRecursion P (after_tags n ts)
  body_within n [] all = tt
  body_within n (t ∷ []) all = all
  body_within n (t ∷ m ∷ ts) all = cond_both (nat_eq n 0) (t ∷ m ∷ ts) (after_tags (n - 1) ts) (λ l. AllByRecursion P l) (λ is. all) (λ is. body_within (n - 1) ts all.1.1)

  pub operand_within : (f : Form) (ts : List Token) → AllByRecursion P ts → AllByRecursion P (operand_by f ts)
  operand_within form.Origin ts all = all_drop P 1 ts all
  operand_within form.Assign ts all = all_drop P 2 ts all
  operand_within form.Word ts all = all
  operand_within _ ts all = tt

some_none : {X : Type 0} (x : X) → Some x ≡ None → ⊥
some_none x e = cc

chosen : {X : Type 0} (b : Bool) (x : X) (o : Option X) → (if b then Some x else o) ≡ None → (b ≡ false) × (o ≡ None)
chosen true x o e = absurd (some_none x e)
chosen false x o e = (refl, e)

-- a part that isn't told is short
short_from : (n : ℕ) (parts : List (Bor (List ℕ))) (i : ℕ) (d : Bor (List ℕ)) → first_long n (texts parts) ≡ None → i < length parts → length (get_or parts i d).now ≤ 65536
short_from n [] i d e h = absurd (omega arith)
short_from n (p ∷ ps) zero d e h = elim (cases_lt 65536 (length p.now)) [
  | inl long ↦ absurd (some_none (fault_at TooLong n 0) (ap (λ b. if b then Some (fault_at TooLong n 0) else first_long (n + 1) (texts ps)) (sym (lt-ltb 65536 (length p.now) long)) ∙ e))
  | inr short ↦ short
]
short_from n (p ∷ ps) (suc i) d e h = short_from (n + 1) ps i d (chosen (nat_lt 65536 (length p.now)) (fault_at TooLong n 0) (first_long (n + 1) (texts ps)) e).1 (omega arith)

pub short_at : (parts : List (Bor (List ℕ))) (i : ℕ) (d : Bor (List ℕ)) → size_fault (texts parts) ≡ None → i < length parts → length (get_or parts i d).now ≤ 65536
short_at parts i d e h =
    short_from 1 parts i d (chosen (nat_lt (length (texts parts)) 1 || nat_lt 16 (length (texts parts))) _ (first_long 1 (texts parts)) e).1 h
