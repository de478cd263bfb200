-- What a line of a certificate's text says: its words are read loosely, and then the line's spelling is compared.
use Rattle.std.specs.Prelude.{ℕ, ◌+◌, ◌-◌, nat_le, nat_lt, Bool, true, not, ◌&&◌, if◌then◌else◌, codes, List, [], ◌∷◌, length, take, drop, Option, Some, None}
use Rattle.std.specs.List.{list_all}
use Rattle.std.specs.Str.{bytes_eq}
use Rattle.wordset.specs.Bits.{has_bit}
use Rattle.word12.specs.Octal.{octal_value}
use Rattle.wordset.specs.Words.{Words, nothing, all_words, one, some_below, has_some}
use Rattle.domain.specs.Locations.{Ac, Cell}
use Rattle.domain.specs.Terms.{Term, Holding, Behind, Summand, Sum, difference_of, arranged, same_sum}
use Rattle.domain.specs.Chains.{Step, Operates, Ands, Adds}
use Rattle.domain.specs.Shapes.{has_shape}
use Rattle.certificate_lines.specs.LineWords.{words_in, word_at, numbers_of, set_of, offsets_in, links_in, name_of}
use Rattle.certificate_lines.specs.FieldSpelling.{Registers}
use Rattle.certificate_lines.specs.declared.Version.{Version}
use Rattle.certificate_lines.specs.declared.Version.TheVariants.{One, Two, Three}
use Rattle.certificate_lines.specs.Lines.{Line, RoutineIs, FactIs, ExitIs, CellIs, SumIs, ChainIs, End, is_of_sums}
use Rattle.certificate_lines.specs.Spelling.{line_text}

-- The word is this one.
abbrev pub reads : List ℕ → List ℕ → Bool
reads word text = bytes_eq word text

-- The offsets, by the version.
abbrev pub offsets_of : Version → List ℕ → Words
offsets_of One word = offsets_in word
offsets_of Two word = offsets_in word
offsets_of Three word = numbers_of 2 64 word

-- What the words after an address or an exit's offset say of the registers.
abbrev pub registers_in : Version → List (List ℕ) → Registers
registers_in One words = record { ac = set_of (word_at 1 words); mq = all_words; link = links_in (word_at 3 words) }
registers_in Two words = record { ac = set_of (word_at 1 words); mq = set_of (word_at 3 words); link = links_in (word_at 5 words) }
registers_in Three words = record { ac = set_of (word_at 1 words); mq = set_of (word_at 3 words); link = links_in (word_at 5 words) }

-- How many words of a line say something of the sites.
abbrev pub site_words : Version → ℕ
site_words v = if is_of_sums v then 2 else 0

-- How many words say something of the registers.
abbrev pub register_words : Version → ℕ
register_words One = 4
register_words Two = 6
register_words Three = 6

-- The sites that the words after an address or an exit's offset say; in versions 1 and 2 none.
abbrev pub sites_in : Version → List (List ℕ) → Words
sites_in v words = if is_of_sums v then set_of (word_at 1 words) else nothing

-- The term of a word: [X+K] begins with the character 91.
abbrev pub term_of : List ℕ → Term
term_of word =
    if reads (take 1 word) (codes "[")
    then Behind (octal_value (take 4 (drop 1 word))) (octal_value (take 4 (drop 6 word)))
    else Holding (name_of word)

-- The coefficient of a word.
abbrev pub coefficient_of : List ℕ → ℕ
coefficient_of word =
    if reads word (codes "+") then 1 else (if reads word (codes "-") then 4095 else octal_value word)

-- The terms after the first one, by the words of a line up to "in".
abbrev pub further_in : List (List ℕ) → Sum
further_in [] = []
further_in (c ∷ []) = []
further_in (c ∷ t ∷ words) =
    if reads c (codes "in") then [] else record { coefficient = coefficient_of c; term = term_of t } ∷ further_in words

-- The sum of a line.
abbrev pub sum_in : List (List ℕ) → Sum
sum_in words = record { coefficient = 1; term = term_of (word_at 1 words) } ∷ further_in (drop 2 words)

-- The steps of a chain by the words after its links.
abbrev pub steps_in : List (List ℕ) → List Step
steps_in [] = []
steps_in (w ∷ []) = Operates (octal_value w) ∷ []
steps_in (w ∷ u ∷ words) =
    if reads w (codes "AND") then Ands (octal_value u) ∷ steps_in words
    else (if reads w (codes "TAD") then Adds (octal_value u) ∷ steps_in words
    else Operates (octal_value w) ∷ steps_in (u ∷ words))

-- What a line of a relation or a chain would say, by its first word; another line would be the end. A line that is spelled
-- otherwise says nothing, as `line_if` has it.
abbrev pub detail_by : Version → List (List ℕ) → Line
detail_by v words =
    if reads (word_at 0 words) (codes "equal") && not (is_of_sums v) then
    SumIs (record { sum = difference_of (name_of (word_at 1 words)) (name_of (word_at 2 words)); set = one (octal_value (word_at 3 words)) })
    else (if reads (word_at 0 words) (codes "sum") && is_of_sums v then
    SumIs (record { sum = sum_in words; set = set_of (word_at (length words - 1) words) })
    else (if reads (word_at 0 words) (codes "func") && is_of_sums v then
    ChainIs (record {
      cell = octal_value (word_at 1 words);
      more = octal_value (word_at 2 words);
      link = links_in (word_at 4 words);
      steps = steps_in (drop 5 words);
    })
    else End))

-- What a line of these words would say.
abbrev pub said_by : Version → List (List ℕ) → Line
said_by v words =
    if reads (word_at 0 words) (codes "routine") then
    RoutineIs (record {
      entry = octal_value (word_at 1 words);
      rank = octal_value (word_at 3 words);
      sites = set_of (word_at 5 words);
      writes = set_of (word_at 7 words);
    })
    else (if reads (word_at 0 words) (codes "fact") then
    FactIs (octal_value (word_at 1 words)) (sites_in v (drop 2 words)) (registers_in v (drop (2 + site_words v) words))
    (offsets_of v (word_at (register_words v + 3 + site_words v) words))
    else (if reads (word_at 0 words) (codes "exit") then
    ExitIs (octal_value (word_at 1 words)) (octal_value (word_at 2 words)) (sites_in v (drop 3 words))
    (registers_in v (drop (3 + site_words v) words))
    else (if reads (word_at 0 words) (codes "cell") then
    CellIs (record { address = octal_value (word_at 1 words); set = set_of (word_at 2 words) })
    else detail_by v words)))

-- No set of the registers is empty; in version 1 any word may be in MQ.
abbrev pub has_registers : Version → Registers → Bool
has_registers v r = has_some r.ac && (has_some r.mq && some_below 2 r.link)

-- The numbers of a term are words.
abbrev pub is_term : Term → Bool
is_term (Holding Ac) = true
is_term (Holding (Cell a)) = nat_lt a 4096
is_term (Behind x k) = nat_lt x 4096 && nat_lt k 4096

-- The numbers of a term with its coefficient are words.
abbrev pub is_summand : Summand → Bool
is_summand s = nat_lt s.coefficient 4096 && is_term s.term

-- A sum of two or three terms, of one of the shapes and as it is kept.
abbrev pub is_relation : Sum → Bool
is_relation sum =
    nat_le 2 (length sum) && (list_all is_summand sum && (has_shape sum && same_sum (arranged sum) sum))

-- A step: a word of group 1 that does not rotate both ways, or any word that is added or anded.
abbrev pub is_step : Step → Bool
is_step (Operates w) = nat_le 3584 w && (nat_le w 3839 && not (has_bit 3 w && has_bit 2 w))
is_step (Ands w) = nat_lt w 4096
is_step (Adds w) = nat_lt w 4096

-- An exit's offset has one digit in versions 1 and 2, two in version 3.
abbrev pub most_offsets : Version → ℕ
most_offsets v = if is_of_sums v then 64 else 8

-- The line is of its form: addresses and words are below 4096, ranks below 64, and sets are not empty except for sites, written cells
-- and offsets; a sum is as it is kept, and a chain has 1 to 16 steps.
abbrev pub has_form : Version → Line → Bool
has_form v (RoutineIs r) = nat_lt r.entry 4096 && nat_lt r.rank 64
has_form v (FactIs a s r o) = nat_lt a 4096 && has_registers v r
has_form v (ExitIs e o s r) = nat_lt e 4096 && (nat_lt o (most_offsets v) && has_registers v r)
has_form v (CellIs c) = nat_lt c.address 4096 && has_some c.set
has_form v (SumIs r) = is_relation r.sum && has_some r.set
has_form v (ChainIs c) =
    nat_lt c.cell 4096 && (nat_lt c.more 4096 && (some_below 2 c.link &&
    (nat_le 1 (length c.steps) && (nat_le (length c.steps) 16 && list_all is_step c.steps))))
has_form v End = true

-- This line, where it is of its form and these bytes are its spelling.
abbrev pub line_if : Version → List ℕ → Line → Option Line
line_if v bytes l = if has_form v l && bytes_eq (line_text v l) bytes then Some l else None

-- What a line of a text of this version says, without its line feed: what its words say, where just these bytes spell that.
unfoldable pub line_of : Version → List ℕ → Option Line
line_of v bytes = line_if v bytes (said_by v (words_in bytes))
