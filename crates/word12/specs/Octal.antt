-- The word that octal digits spell.
use Rattle.std.specs.Prelude.{ℕ, ◌+◌, ◌-◌, ◌*◌, ◌^◌, Bool, ◌&&◌, ◌==◌, nat_le, nat_lt, if◌then◌else◌, List, [], ◌∷◌, length, Result, Ok, Err}
use Rattle.std.specs.List.{list_all}
use Rattle.word12.specs.declared.OctalFault.{OctalFault}
use Rattle.word12.specs.declared.OctalFault.TheVariants.{Empty, NotOctal, TooLarge}

-- One of the characters 0 to 7, whose codes are 48 to 55.
abbrev pub is_octal_digit : ℕ → Bool
is_octal_digit c = nat_le 48 c && nat_le c 55

-- The number that digits spell: the weight of each digit is 8 to the power of the number of digits
-- after it.
abbrev pub octal_value : List ℕ → ℕ
octal_value [] = 0
octal_value (c ∷ cs) = (c - 48) * 8 ^ length cs + octal_value cs

-- The word that a text spells, or the first fault that it has, in the order Empty, NotOctal,
-- TooLarge.
abbrev pub octal_reading : List ℕ → Result ℕ OctalFault
octal_reading text =
    if length text == 0 then Err Empty
    else (if list_all is_octal_digit text
    then (if nat_lt (octal_value text) 4096 then Ok (octal_value text) else Err TooLarge)
    else Err NotOctal)
