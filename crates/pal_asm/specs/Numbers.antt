-- Numbers as they are written.
use Rattle.std.specs.Prelude.{ℕ, ◌+◌, ◌-◌, ◌*◌, ◌^◌, Bool, ◌&&◌, nat_le, nat_lt, if◌then◌else◌, List, [], ◌∷◌, length, Result, Ok, Err}
use Rattle.std.specs.List.{list_all}
use Rattle.pal_acts.specs.declared.fault_code.FaultCode.{FaultCode}
use Rattle.pal_acts.specs.declared.fault_code.FaultCode.TheVariants.{IllegalCharacter, NumberTooLarge}
use Rattle.pal_text.specs.Characters.{char}
use Rattle.pal_text.specs.declared.grammar.Form.{Form}
use Rattle.pal_text.specs.declared.grammar.Form.TheVariants as form
use Rattle.pal_asm.specs.declared.number.Radix.{Radix}
use Rattle.pal_asm.specs.declared.number.Radix.TheVariants.{Octal, Decimal}

-- The base in which numbers are written.
abbrev pub base : Radix → ℕ
base Octal = 8
base Decimal = 10

-- Numbers are written so after a statement: DECIMAL and OCTAL say how, every other one leaves it.
abbrev pub radix_after : Radix → Form → Radix
radix_after r form.Decimal = Decimal
radix_after r form.Octal = Octal
radix_after r _ = r

-- What digits are worth: each counts the base to the number of digits after it.
abbrev pub worth : ℕ → List ℕ → ℕ
worth b [] = 0
worth b (c ∷ cs) = (c - char "0") * b ^ length cs + worth b cs

-- A character is a digit of this base.
abbrev pub is_digit_of : ℕ → ℕ → Bool
is_digit_of b c = nat_le (char "0") c && nat_lt (c - char "0") b

-- The number that these digits spell. That each is a digit of the base is asked first, and then whether the number is a word.
abbrev pub number : ℕ → List ℕ → Result ℕ FaultCode
number b cs =
    if list_all (is_digit_of b) cs then (if nat_lt (worth b cs) 4096 then Ok (worth b cs) else Err NumberTooLarge) else
    Err IllegalCharacter
