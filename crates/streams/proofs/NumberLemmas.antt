-- The value of decimal digits, read from the left.
use Rattle.std.proofs.Common.{ℕ, ◌≡◌, ◌<◌, ◌≤◌, ◌+◌, ◌-◌, ◌*◌, List, take, get_or, length, arith, true, ◌∙◌, ap, Some, refl}
use Rattle.std.specs.List.{list_all}
use Rattle.std.specs.Char.{is_ascii_digit, digit_value}
use Rattle.std.specs.Str.Parse.{digits_value}
use Rattle.std.proofs.lemmas.List.{take_more}
use Rattle.streams.specs.Text.{decimal_between}
use Rattle.std.proofs.lemmas.Bool.{and_parts, leb-true, lt-ltb, le-leb}
use Rattle.std.proofs.lemmas.Str.{digit_value_digit}
use Rattle.std.proofs.lemmas.List.Sums.{AllPass-from_list_all}
use Rattle.std.proofs.lemmas.List.Elements.{All-get_or}
use Rattle.std.proofs.lemmas.Int.Digits.{digits_value_push}

digit_value-decimal : (c : ℕ) → is_ascii_digit c ≡ true → digit_value c ≡ c - 48
digit_value-decimal c h =
    let parts = and_parts _ _ h in
    let low : 48 ≤ c = leb-true 48 c parts.0 in
    let high : c ≤ 57 = leb-true c 57 parts.1 in
    omega (arith, digit_value_digit c (low, high))

-- one digit more
pub digits_value-take_more : (ds : List ℕ) (i : ℕ) → list_all is_ascii_digit ds ≡ true → i < length ds → digits_value 10 (take (i + 1) ds) ≡ digits_value 10 (take i ds) * 10 + (get_or ds i 0 - 48)
digits_value-take_more ds i all h =
    rw (take_more ds i 0 h) (digits_value_push 10 (take i ds) (get_or ds i 0) ∙ ap (λ d. digits_value 10 (take i ds) * 10 + d) (digit_value-decimal (get_or ds i 0) (All-get_or (λ c. is_ascii_digit c ≡ true) ds i 0 h (AllPass-from_list_all is_ascii_digit ds all))))

-- decimal digits between the limits spell their value
pub decimal_between-some : (least most : ℕ) (ds : List ℕ) → 0 < length ds → list_all is_ascii_digit ds ≡ true → least ≤ digits_value 10 ds → digits_value 10 ds ≤ most → decimal_between least most ds ≡ Some (digits_value 10 ds)
decimal_between-some least most ds some all low high =
    rw (lt-ltb 0 (length ds) some, all, le-leb least (digits_value 10 ds) low, le-leb (digits_value 10 ds) most high) refl
