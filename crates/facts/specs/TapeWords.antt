-- What a tape has at its addresses.
use Rattle.std.specs.Prelude.{◌≡◌, ℕ, ◌<◌, Some}
use Rattle.processor.specs.Runs.{Image}

-- What the tape has at an address is a word, a number below 4096.
abbrev pub AreTapeWords : Image → Type 0
AreTapeWords image = (a w : ℕ) → image a ≡ Some w → w < 4096
