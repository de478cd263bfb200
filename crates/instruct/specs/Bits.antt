-- The bits of a word as arithmetic. The machine numbers them from the top; here bit k is the one of weight 2 ^ k.
use Rattle.std.specs.Prelude.{ℕ, ◌+◌, ◌*◌, ◌/◌, ◌%◌, ◌^◌, Bool, ◌==◌, if◌then◌else◌}

-- The bit of weight 2 ^ k is set.
abbrev pub has_bit : ℕ → ℕ → Bool
has_bit k word = (word / 2 ^ k % 2) == 1

-- The cell that a memory reference names: its low seven bits are the place in the page, which is that of the
-- instruction itself if 0200 is set, and otherwise page zero.
abbrev pub named_cell : ℕ → ℕ → ℕ
named_cell word at = if has_bit 7 word then at / 128 * 128 + word % 128 else word % 128

-- A memory reference is indirect if 0400 is set.
abbrev pub is_indirect : ℕ → Bool
is_indirect word = has_bit 8 word
