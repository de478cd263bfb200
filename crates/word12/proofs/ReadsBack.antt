-- A word's octal text spells the word.
use Rattle.std.proofs.Common.{ℕ, ◌≡◌, ◌<◌, ◌≤◌, ◌+◌, ◌-◌, ◌*◌, ◌/◌, ◌%◌, ◌^◌, Bool, true, false, if◌then◌else◌, Result, Ok, Err, refl, ap, arith}
use Rattle.std.specs.Prelude.{nat_lt}
use Rattle.std.specs.List.{list_all}
use Rattle.std.proofs.lemmas.Bool.{and_from, le-leb, lt-ltb}
use Rattle.word12.specs.declared.OctalFault.{OctalFault}
use Rattle.word12.specs.declared.OctalFault.TheVariants.{NotOctal, TooLarge}
use Rattle.word12.specs.Laws.{OctalReadsBack}
use Rattle.word12.specs.Octal.{is_octal_digit, octal_reading, octal_value}
use Rattle.word12.specs.Words.{octal_text}

digit : (d : ℕ) → d < 8 → is_octal_digit (48 + d) ≡ true
digit d small = and_from _ _ (le-leb 48 (48 + d) (omega arith)) (le-leb (48 + d) 55 (omega (arith, small)))

digits : (n : ℕ) → n < 4096 → list_all is_octal_digit (octal_text n) ≡ true
digits n small =
    and_from _ _ (digit (n / 512) (omega (arith, small))) (and_from _ _ (digit (n / 64 % 8) (omega arith))
    (and_from _ _ (digit (n / 8 % 8) (omega arith)) (and_from _ _ (digit (n % 8) (omega arith)) refl)))

spelled : (n : ℕ) → n < 4096 → octal_value (octal_text n) ≡ n
spelled n small = omega (arith, small)

chosen : (a b : Bool) (v n : ℕ) → a ≡ true → b ≡ true → v ≡ n → (if a then (if b then Ok v else Err TooLarge) else Err NotOctal) ≡ Ok n
chosen true true v n p q same = ap Ok same
chosen true false v n p q same = cc
chosen false b v n p q same = cc

pub octal_reads_back : OctalReadsBack
octal_reads_back n small =
    let value : octal_value (octal_text n) ≡ n = spelled n small in
    chosen (list_all is_octal_digit (octal_text n)) (nat_lt (octal_value (octal_text n)) 4096) (octal_value (octal_text n)) n (digits n small) (lt-ltb (octal_value (octal_text n)) 4096 (omega (arith, value, small))) value
