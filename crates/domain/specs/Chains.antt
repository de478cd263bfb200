-- Chains: what a run of instructions made of the word that is in a cell, when nothing else is known of the accumulator.
use Rattle.std.specs.Prelude.{ℕ, ◌+◌, ◌/◌, ◌%◌, ◌==◌, Bool, ◌&&◌, if◌then◌else◌, List, [], ◌∷◌, ◌++◌, map, bit_and}
use Rattle.wordset.specs.Operate.{accumulator_after, link_after}
use Rattle.wordset.specs.Words.{plus, minus, Words, some_below}

-- A step: a word of group 1, an AND of a word or a TAD of a word.
pub data Step : Type 0 where
  Operates : ℕ → Step
  Ands : ℕ → Step
  Adds : ℕ → Step

-- What a step makes of the accumulator and the link, as the machine does: a carry out of a sum complements the link.
abbrev pub after_step : Step → ℕ × ℕ → ℕ × ℕ
after_step (Operates w) s = (accumulator_after w s.0 s.1, link_after w s.0 s.1)
after_step (Ands w) s = (bit_and s.0 w, s.1)
after_step (Adds w) s = (plus s.0 w, (s.1 + (s.0 + w) / 4096) % 2)

-- What steps make of them, one after the other.
abbrev pub after_steps : List Step → ℕ × ℕ → ℕ × ℕ
after_steps [] s = s
after_steps (p ∷ ps) s = after_steps ps (after_step p s)

-- A chain: the accumulator and the link are what the steps make of the word of a cell, plus a number, and of one of
-- these links.
pub record Chain : Type 0 where
  pub cell : ℕ
  pub more : ℕ
  pub link : Words
  pub steps : List Step

-- The pair is an accumulator of this word and this link.
abbrev pub is_pair_of : ℕ × ℕ → ℕ → ℕ → Bool
is_pair_of s w l = (s.0 == w) && (s.1 == l)

-- A chain gives the accumulator w and the link l of the cell's word v: its steps make them of v plus the number and of one
-- of the links with which it begins. So it gives at most two pairs of each word.
abbrev pub gives : Chain → ℕ → ℕ → ℕ → Bool
gives c v w l =
    some_below 2 (λ k. c.link k && is_pair_of (after_steps c.steps (plus v c.more, k)) w l)

-- The chain with one step more.
abbrev pub longer : Step → Chain → Chain
longer p c = record c { steps = c.steps ++ p ∷ [] }

-- All chains with one step more.
abbrev pub all_longer : Step → List Chain → List Chain
all_longer p chains = map (longer p) chains

-- The chain after a number was added to the word of a cell: one on this cell begins with so much less.
abbrev pub after_count : ℕ → ℕ → Chain → Chain
after_count a d c = record c { more = if c.cell == a then minus c.more d else c.more }
