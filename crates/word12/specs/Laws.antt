-- A word's octal text spells the word.
use Rattle.std.specs.Prelude.{◌≡◌, ◌<◌, ℕ, Ok}
use Rattle.word12.specs.Octal.{octal_reading}
use Rattle.word12.specs.Words.{octal_text}

abbrev pub OctalReadsBack : Type 0
OctalReadsBack = (n : ℕ) → n < 4096 → octal_reading (octal_text n) ≡ Ok n
