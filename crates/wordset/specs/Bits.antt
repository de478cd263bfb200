-- One bit of the words of a set: the steps by which the bitwise operations are made.
use Rattle.std.specs.Prelude.{ℕ, ◌+◌, ◌-◌, ◌^◌, ◌==◌, if◌then◌else◌, not, ◌&&◌, ◌||◌, bit_and, bit_or}
use Rattle.std.specs.Int.{bit_at}
use Rattle.wordset.specs.Words.{Words, plus, minus, some_below}

-- The words with the bit of weight 2 ^ at.
abbrev pub has_bit : ℕ → Words
has_bit at v = bit_at v at == 1

-- The place of the bit with which the one at a place changes places, where those 2 ^ at apart are exchanged.
abbrev pub neighbour : ℕ → ℕ → ℕ
neighbour at j = if bit_at j at == 1 then j - 2 ^ at else j + 2 ^ at

-- The words of a set, and those of them without the bit moved up by its weight.
abbrev pub doubled : ℕ → Words → Words
doubled at a v = let u = minus v (2 ^ at) in a v || (a u && not (has_bit at u))

-- The words of a set, and those of them with the bit moved down by its weight.
abbrev pub halved : ℕ → Words → Words
halved at a v = let u = plus v (2 ^ at) in a v || (a u && has_bit at u)

-- The words of a set with the bit, and those without it moved up by its weight.
abbrev pub put_bit : ℕ → Words → Words
put_bit at a v = let u = minus v (2 ^ at) in (a v && has_bit at v) || (a u && not (has_bit at u))

-- All x or b, bit by bit, for one x and the words b of a set.
abbrev pub ors_with : ℕ → Words → Words
ors_with x b v = some_below 4096 (λ y. b y && (bit_or x y == v))

-- All x and b, bit by bit, for one x and the words b of a set.
abbrev pub ands_with : ℕ → Words → Words
ands_with x b v = some_below 4096 (λ y. b y && (bit_and x y == v))
