-- What the iterators over lines and words have left.
use Rattle.std.specs.Prelude.{ℕ, List}
use Rattle.streams.specs.declared.text.Lines.{Lines}
use Rattle.streams.specs.declared.text.Words.{Words}
use Rattle.streams.specs.Text.{text_lines, words_of}

-- the lines that are still to come
abbrev pub lines_left : Lines → List (List ℕ)
lines_left it = text_lines it.rest.now

-- the words that are still to come
abbrev pub words_left : Words → List (List ℕ)
words_left it = words_of it.rest.now
