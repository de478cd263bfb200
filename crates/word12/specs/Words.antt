-- Words as numbers below 4096 and links as 0 or 1: the rotates, and the octal text of a word.
use Rattle.std.specs.Prelude.{ℕ, ◌+◌, ◌*◌, ◌/◌, ◌%◌, List, [], ◌∷◌}

-- A rotate treats the link and the word as a ring of thirteen bits. To the left, each bit moves up by one place, and
-- the link becomes the lowest bit.
abbrev pub left_word : ℕ → ℕ → ℕ
left_word word link = (2 * word + link) % 4096

-- The highest bit goes into the link.
abbrev pub left_link : ℕ → ℕ
left_link word = word / 2048

-- To the right, each bit moves down by one place, and the link becomes the highest bit.
abbrev pub right_word : ℕ → ℕ → ℕ
right_word word link = link * 2048 + word / 2

-- The lowest bit goes into the link.
abbrev pub right_link : ℕ → ℕ
right_link word = word % 2

-- The four octal digits of a word as characters; 48 is the code of the digit 0.
abbrev pub octal_text : ℕ → List ℕ
octal_text n = (48 + n / 512) ∷ (48 + n / 64 % 8) ∷ (48 + n / 8 % 8) ∷ (48 + n % 8) ∷ []
