-- How many bytes a text may have, and its pieces.
use Rattle.std.specs.Prelude.{ℕ, ◌==◌, List}
use Rattle.std.specs.List.{slice_split}

-- A certificate's text has at most so many bytes.
abbrev pub most_bytes : ℕ
most_bytes = 1048576

-- The pieces of a text between its line feeds.
abbrev pub pieces : List ℕ → List (List ℕ)
pieces bytes = slice_split (λ c. c == 10) bytes
