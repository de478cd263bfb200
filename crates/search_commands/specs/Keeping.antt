-- When a text keeps the lines of another text that something is added to.
use Rattle.std.specs.Prelude.{ℕ, ◌≡◌, ◌<◌, ◌⊎◌, ◌==◌, ◌&&◌, ◌||◌, nat_le, Bool, true, false, List, [], ◌∷◌, ◌++◌, codes, length}
use Rattle.std.specs.List.{before_first, after_first, list_all, position_or_len}
use Rattle.std.specs.Str.Lines.{strip_carriage_return}
use Rattle.streams.specs.Text.{words_of}

-- Whether a byte is a line feed.
abbrev pub is_feed : ℕ → Bool
is_feed c = c == 10

-- The text has a line that ends in a line feed.
abbrev pub HasLine : List ℕ → Type 0
HasLine text = position_or_len is_feed text < length text

-- The first line of a text, without its line feed.
abbrev pub first_line : List ℕ → List ℕ
first_line text = before_first is_feed text

-- What follows the first line feed of a text.
abbrev pub other_lines : List ℕ → List ℕ
other_lines text = after_first is_feed text

-- Whether a byte is a digit or a hyphen, which ranges and offsets are spelled with.
abbrev pub is_spelling : ℕ → Bool
is_spelling c = nat_le 48 c && nat_le c 57 || c == 45

-- Whether a byte is one of these or a space, which a row of ranges and offsets is spelled with.
abbrev pub is_spaced : ℕ → Bool
is_spaced c = is_spelling c || c == 32

-- Whether a byte is a space, a tab or the slash of a comment, each of which ends a word.
abbrev pub is_end : ℕ → Bool
is_end c = c == 32 || (c == 9 || c == 47)

-- Whether a word that comes before this text has ended.
abbrev pub ends_word : List ℕ → Bool
ends_word [] = true
ends_word (c ∷ rest) = is_end c

-- The beginning of the comment that marks what is added.
abbrev pub mark : List ℕ
mark = codes " / added"

-- The comment that marks what is added. It may list ranges and, after the word `returns`, offsets; that they are those that were added
-- is not said.
pub data IsMark : List ℕ → Type 0 where
  ranges : (named : List ℕ) → list_all is_spaced named ≡ true → IsMark (mark ++ named)
  offsets : (named behind : List ℕ) → list_all is_spaced named ≡ true → list_all is_spaced behind ≡ true → IsMark (mark ++ (named ++ (codes "returns" ++ behind)))

-- The second line is the first one with ranges and offsets inserted before its comment, each of them after a space and
-- where a word has ended, and with the comment that marks what is added at the very end. So each word of the first
-- line is in the second one too, unchanged and in the same order, and the comment of the first line is unchanged.
pub data Grows : List ℕ → List ℕ → Type 0 where
  same : (c : ℕ) (old new : List ℕ) → (c == 47) ≡ false → Grows old new → Grows (c ∷ old) (c ∷ new)
  put : (word old new : List ℕ) → list_all is_spelling word ≡ true → ends_word old ≡ true → Grows old new → Grows old (32 ∷ (word ++ new))
  commented : (comment rest : List ℕ) → IsMark rest → Grows (47 ∷ comment) ((47 ∷ comment) ++ rest)
  marked : (rest : List ℕ) → IsMark rest → Grows [] rest

-- The text is empty, or begins with the slash of a comment.
abbrev pub IsCommentOrEnd : List ℕ → Type 0
IsCommentOrEnd text = (text ≡ []) ⊎ ((comment : List ℕ) × (text ≡ 47 ∷ comment))

-- The line is that of a routine: its first word is `sub`.
abbrev pub IsRoutineLine : List ℕ → Type 0
IsRoutineLine line = (others : List (List ℕ)) × (words_of line ≡ codes "sub" ∷ others)

-- A line is kept: it is unchanged or, if it is the line of a routine, it has grown, apart from its carriage return. No other
-- line may grow, so that what is to hold at places and at returns stays as it is.
abbrev pub KeepsLine : List ℕ → List ℕ → Type 0
KeepsLine old new = (old ≡ new) ⊎ (IsRoutineLine old × Grows (strip_carriage_return old) (strip_carriage_return new))

-- A line is an added line: it ends with the comment that marks it, or it is a comment.
abbrev pub IsAdded : List ℕ → Type 0
IsAdded line = ((front : List ℕ) × (line ≡ front ++ mark)) ⊎ ((rest : List ℕ) × (line ≡ 47 ∷ rest))

-- Each line of the text is an added line.
pub data AreAdded : List ℕ → Type 0 where
  none : AreAdded []
  more : (text : List ℕ) → HasLine text → IsAdded (first_line text) → AreAdded (other_lines text) → AreAdded text

-- The second text keeps the first one: its lines are first those of the first text, each of them kept, in the same
-- order, and then added lines. The last line of the first text may lack its line feed.
pub data KeepsLines : List ℕ → List ℕ → Type 0 where
  unchanged : (text : List ℕ) → KeepsLines text text
  line : (old new : List ℕ) → HasLine old → HasLine new → KeepsLine (first_line old) (first_line new) → KeepsLines (other_lines old) (other_lines new)
      → KeepsLines old new
  last : (old new : List ℕ) → HasLine new → KeepsLine old (first_line new) → AreAdded (other_lines new) → KeepsLines old new
  added : (new : List ℕ) → AreAdded new → KeepsLines [] new
