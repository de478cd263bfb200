-- A number read digit by digit.
use Rattle.std.proofs.Common.{◌≡◌, ◌∙◌, sym, ap, refl, ℕ, suc, ◌+◌, ◌-◌, ◌*◌, ◌^◌, ◌<◌, ◌≤◌, Bool, true, false, ◌&&◌, if◌then◌else◌, List, [], ◌∷◌, length, arith, inl, inr, cond}
use Rattle.std.specs.Prelude.{nat_lt, Result, Ok, Err}
use Rattle.std.specs.List.{list_all}
use Rattle.std.proofs.lemmas.Bool.{cases_lt, lt-ltb, le-ltb, cond-true, cond-false}
use Rattle.std.proofs.Math.Nat.{mul-le-mul_left, pow-suc, pow-zero}
use Rattle.pal_acts.specs.declared.fault_code.FaultCode.{FaultCode}
use Rattle.pal_acts.specs.declared.fault_code.FaultCode.TheVariants.{IllegalCharacter, NumberTooLarge}
use Rattle.pal_asm.specs.Numbers.{worth, is_digit_of, number}

-- a number, with 4096 for all that are larger
abbrev pub capped : ℕ → ℕ
capped v = if nat_lt v 4096 then v else 4096

-- a number as a word
abbrev small : ℕ → Result ℕ FaultCode
small v = if nat_lt v 4096 then Ok v else Err NumberTooLarge

-- the number that digits spell after others that are worth so much
abbrev pub number_from : ℕ → ℕ → List ℕ → Result ℕ FaultCode
number_from b v [] = small v
number_from b v (c ∷ cs) = if is_digit_of b c then number_from b (capped (v * b + (c - 48))) cs else Err IllegalCharacter

capped_below : (v : ℕ) → v < 4096 → capped v ≡ v
capped_below v h = cond-true (nat_lt v 4096) v 4096 (lt-ltb v 4096 h)

capped_above : (v : ℕ) → 4096 ≤ v → capped v ≡ 4096
capped_above v h = cond-false (nat_lt v 4096) v 4096 (le-ltb v 4096 h)

small_above : (v : ℕ) → 4096 ≤ v → small v ≡ Err NumberTooLarge
small_above v h = cond-false (nat_lt v 4096) (Ok v) (Err NumberTooLarge) (le-ltb v 4096 h)

small_capped : (v : ℕ) → small (capped v) ≡ small v
small_capped v = elim (cases_lt v 4096) [
  | inl lt ↦ ap small (capped_below v lt)
  | inr ge ↦ ap small (capped_above v ge) ∙ sym (small_above v ge)
]

wide : (v b : ℕ) → 1 ≤ b → v ≤ v * b
wide v b h = omega (arith, mul-le-mul_left v h)

capped_more : (b v d : ℕ) → 1 ≤ b → capped (capped v * b + d) ≡ capped (v * b + d)
capped_more b v d h = elim (cases_lt v 4096) [
  | inl lt ↦ ap (λ n. capped (n * b + d)) (capped_below v lt)
  | inr ge ↦ ap (λ n. capped (n * b + d)) (capped_above v ge) ∙ capped_above (4096 * b + d) (omega arith) ∙ sym (capped_above (v * b + d) (omega (arith, wide v b h)))
]

tested : (t u : Bool) (A X : Result ℕ FaultCode) → A ≡ (if u then X else Err IllegalCharacter) → (if t then A else Err IllegalCharacter) ≡ (if t && u then X else Err IllegalCharacter)
tested true u A X h = h
tested false u A X h = refl

sums : (v b d P W : ℕ) → (v * b + d) * P + W ≡ v * (P * b) + (d * P + W)
sums v b d P W = omega arith

from_capped : (b v : ℕ) (cs : List ℕ) → 1 ≤ b → number_from b (capped v) cs ≡ (if list_all (is_digit_of b) cs then small (v * b ^ length cs + worth b cs) else Err IllegalCharacter)
from_capped b v [] h = let e : v * b ^ 0 + 0 ≡ v = ap (λ n. v * n + 0) (pow-zero b) ∙ omega arith in small_capped v ∙ ap small (sym e)
from_capped b v (c ∷ cs) h =
    let d : ℕ = c - 48 in
    let e : (v * b + d) * b ^ length cs + worth b cs ≡ v * b ^ suc (length cs) + (d * b ^ length cs + worth b cs) = sums v b d (b ^ length cs) (worth b cs) ∙ ap (λ n. v * n + (d * b ^ length cs + worth b cs)) (sym (pow-suc b (length cs))) in
    tested (is_digit_of b c) (list_all (is_digit_of b) cs) (number_from b (capped (capped v * b + d)) cs) (small (v * b ^ suc (length cs) + (d * b ^ length cs + worth b cs)))
    (ap (λ n. number_from b n cs) (capped_more b v d h) ∙ from_capped b (v * b + d) cs h ∙ ap (λ n. if list_all (is_digit_of b) cs then small n else Err IllegalCharacter) e)

-- it is the number that they spell, where nothing came before
pub from_nothing : (b : ℕ) (cs : List ℕ) → 1 ≤ b → number_from b 0 cs ≡ number b cs
from_nothing b cs h =
    let e : 0 * b ^ length cs + worth b cs ≡ worth b cs = omega arith in
    from_capped b 0 cs h ∙ ap (λ n. if list_all (is_digit_of b) cs then small n else Err IllegalCharacter) e
