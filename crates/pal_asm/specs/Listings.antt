-- The listing of a source: its lines with their words, and its symbols.
use Rattle.std.specs.Prelude.{◌≡◌, ℕ, Bool, ◌||◌, ◌&&◌, not, if◌then◌else◌, List, [], ◌∷◌, ◌++◌, filter, nat_eq, codes}
use Rattle.word12.specs.Words.{octal_text}
use Rattle.pal_text.specs.declared.names.Name.{Name}
use Rattle.pal_text.specs.Characters.{char, characters, code, is_character}
use Rattle.pal_acts.specs.declared.act.SourcePlace.{SourcePlace}
use Rattle.pal_acts.specs.declared.act.PlacedWord.{PlacedWord}
use Rattle.pal_acts.specs.Values.{known}
use Rattle.pal_acts.specs.Sources.{all_words}
use Rattle.pal_asm.specs.Sources.{TextLine, IsReadSo}

-- A word stands at this place.
abbrev pub is_at : SourcePlace → PlacedWord → Bool
is_at p w = nat_eq w.place.part p.part && nat_eq w.place.line p.line

-- Characters from the first one on that is not a space and no tab: those at the front of a line are not
-- listed.
abbrev pub without_front : List ℕ → List ℕ
without_front [] = []
without_front (c ∷ cs) = if nat_eq c (char " ") || nat_eq c (char "\t") then without_front cs else c ∷ cs

-- A byte at the front of a line is not a text: an ignored one, a space or a tab.
abbrev pub is_no_text : ℕ → Bool
is_no_text b = not (is_character (code b)) || (nat_eq (code b) (char " ") || nat_eq (code b) (char "\t"))

-- The address and the word, in octal.
abbrev pub word_text : PlacedWord → List ℕ
word_text w = octal_text w.at ++ codes "  " ++ octal_text w.word

-- Words on lines of their own.
abbrev pub words_text : List PlacedWord → List ℕ
words_text [] = []
words_text (w ∷ ws) = word_text w ++ codes "\n" ++ words_text ws

-- A line with these words and this text: beside the text its first word or as many spaces, and then its further words. If
-- there is neither word nor text, an empty line.
abbrev pub line_text : List PlacedWord → List ℕ → List ℕ
line_text [] [] = codes "\n"
line_text [] (c ∷ cs) = codes "            " ++ (c ∷ cs) ++ codes "\n"
line_text (w ∷ ws) cs = word_text w ++ codes "  " ++ cs ++ codes "\n" ++ words_text ws

-- Lines, each with those of the words that stand on it.
abbrev pub lines_text : List TextLine → List PlacedWord → List ℕ
lines_text [] ws = []
lines_text (l ∷ ls) ws = line_text (filter (is_at l.place) ws) (without_front (characters l.bytes)) ++ lines_text ls ws

-- A symbol, with spaces after fewer than six characters, and its value.
abbrev pub symbol_text : Name → ℕ → List ℕ
symbol_text n v = n.letters ++ codes "  " ++ octal_text v ++ codes "\n"

-- Symbols with their values, a line for each.
abbrev pub symbols_text : List (Name × ℕ) → List ℕ
symbols_text [] = []
symbols_text (s ∷ ss) = symbol_text s.0 s.1 ++ symbols_text ss

-- The listing of lines, words and symbols: an empty line stands before the symbols.
abbrev pub listing : List TextLine → List PlacedWord → List (Name × ℕ) → List ℕ
listing lines ws own = lines_text lines ws ++ codes "\n" ++ symbols_text own

-- The text is the listing of the source of these parts, whose own symbols these are.
abbrev pub Lists : List (Name × ℕ) → List (List ℕ) → List (Name × ℕ) → List ℕ → Type 0
Lists permanent parts own text = IsReadSo parts (λ acts lines. text ≡ listing lines (all_words (known permanent own) acts) own)
