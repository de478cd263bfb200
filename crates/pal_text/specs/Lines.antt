-- The lines of a part. Lists of bytes and of lines have the newest first here, except for
-- `all_lines`.
use Rattle.std.specs.Prelude.{ℕ, ◌+◌, Bool, true, false, if◌then◌else◌, List, [], ◌∷◌, length, reverse}
use Rattle.pal_text.specs.declared.lines.Line.{Line}
use Rattle.pal_text.specs.Characters.{meaning_after, after}

-- Where the line of the next byte begins: after the last line end.
abbrev pub line_start : List ℕ → ℕ
line_start [] = 0
line_start (b ∷ before) = after (line_start before) (length before + 1) (λ c. line_start before) (meaning_after before b)

-- A byte that is not ignored stands after the last line end.
abbrev pub is_begun : List ℕ → Bool
is_begun [] = false
is_begun (b ∷ before) = after (is_begun before) false (λ c. true) (meaning_after before b)

-- The line of the bytes from the place `start` up to the one before `end`.
abbrev pub line_of : ℕ → ℕ → Line
line_of start end = record { start = start; end = end }

-- The lines that a line end has closed, each from after the line end before it up to its own, which is no part of it.
-- An empty line counts.
abbrev pub ended_lines : List ℕ → List Line
ended_lines [] = []
ended_lines (b ∷ before) = after (ended_lines before) (line_of (line_start before) (length before) ∷ ended_lines before) (λ c. ended_lines before) (meaning_after before b)

-- The lines that have ended and, where a byte that is not ignored stands after the last line end, the one that it
-- begins.
abbrev pub lines : List ℕ → List Line
lines before = if is_begun before then line_of (line_start before) (length before) ∷ ended_lines before else ended_lines before

-- The lines of bytes that are in order, in order.
abbrev pub all_lines : List ℕ → List Line
all_lines bytes = reverse (lines (reverse bytes))
