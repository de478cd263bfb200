-- What holds after a byte, each with a name of its own.
use Rattle.std.proofs.Common.{ℕ, ◌+◌, Bool, true, false, ◌||◌, if◌then◌else◌, List, ◌∷◌}
use Rattle.std.specs.Prelude.{nat_eq}
use Rattle.pal_text.specs.declared.characters.Meaning.{Meaning}
use Rattle.pal_text.specs.declared.tokens.TokenKind.TheVariants.{End}
use Rattle.pal_text.specs.declared.tokens.Token.{Token}
use Rattle.pal_text.specs.declared.lines.Line.{Line}
use Rattle.pal_text.specs.Characters.{char, after}
use Rattle.pal_text.specs.Lines.{line_of}
use Rattle.pal_text.specs.Tokens.{kind_of, token, with_next}

abbrev pub comment_by : Bool → Meaning → Bool
comment_by comment m = after comment false (λ c. comment || nat_eq c (char "/")) m

abbrev pub line_by : ℕ → Meaning → ℕ
line_by n m = after n (n + 1) (λ c. n) m

abbrev pub start_by : ℕ → ℕ → Meaning → ℕ
start_by start next m = after start next (λ c. start) m

abbrev pub begun_by : Bool → Meaning → Bool
begun_by begun m = after begun false (λ c. true) m

abbrev pub lines_by : List Line → ℕ → ℕ → Meaning → List Line
lines_by ls start at m = after ls (line_of start at ∷ ls) (λ c. ls) m

abbrev pub runs_with : ℕ → ℕ → Bool → Meaning → List Token → List Token
runs_with at n comment m ts = after ts (with_next (token End n at) ts) (λ c. if comment || nat_eq c (char "/") then ts else with_next (token (kind_of c) n at) ts) m
