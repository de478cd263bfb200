-- Masks and shifts of words as remainders and quotients.
use Rattle.std.proofs.Common.{ℕ, ◌<◌, ◌≡◌, ◌+◌, ◌*◌, ◌/◌, ◌%◌, arith, lit≤}
use Rattle.std.proofs.lemmas.Nat.{or_lt, and_mask, or_shifted}
use Rattle.std.proofs.lemmas.Nat.Bits.{and_high_mask}
use Rattle.std.specs.Int.RustNames.{bit_or, bit_and}

pub or_below : (a b : ℕ) → a < 4096 → b < 4096 → bit_or a b < 4096
or_below a b p q = or_lt 12 a b p q

page_bits : (a : ℕ) → a < 4096 → bit_and a 3968 ≡ a / 128 * 128
page_bits a h = and_high_mask 12 7 (lit≤ tt) a h

place_bits : (b : ℕ) → bit_and b 127 ≡ b % 128
place_bits b = and_mask b 7

or_page : (a b : ℕ) → b < 128 → bit_or (a * 128) b ≡ a * 128 + b
or_page a b h = or_shifted a 7 b h

-- the page of one word with the place of another
pub page_or_place : (a b : ℕ) → a < 4096 → bit_or (bit_and a 3968) (bit_and b 127) ≡ a / 128 * 128 + b % 128
page_or_place a b h =
    let small : b % 128 < 128 = omega arith in
    rw (page_bits a h, place_bits b) (or_page (a / 128) (b % 128) small)

-- the low half moved up, with the high half in its place
pub exchanged_halves : (a : ℕ) → a < 4096 → bit_or (bit_and a 63 * 64) (a / 64) ≡ a % 64 * 64 + a / 64
exchanged_halves a h =
    let small : a / 64 < 64 = omega arith in
    rw (and_mask a 6) (or_shifted (a % 64) 6 (a / 64) small)
