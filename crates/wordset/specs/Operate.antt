-- What a word of group 1 makes of an accumulator and a link.
use Rattle.std.specs.Prelude.{ℕ}
use Rattle.instruct.specs.Operates.{operate1_of}

-- The accumulator after a word of group 1, by the accumulator and the link before it.
abbrev pub accumulator_after : ℕ → ℕ → ℕ → ℕ
accumulator_after word ac link = (operate1_of word (ac, link)).0

-- The link after a word of group 1, by the accumulator and the link before it.
abbrev pub link_after : ℕ → ℕ → ℕ → ℕ
link_after word ac link = (operate1_of word (ac, link)).1
