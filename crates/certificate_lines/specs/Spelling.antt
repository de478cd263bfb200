-- The one spelling of each line of a certificate's text, without its line feed.
use Rattle.std.specs.Prelude.{ℕ, ◌+◌, ◌==◌, if◌then◌else◌, Option, Some, None, List, [], ◌∷◌, ◌++◌, codes, flat_map}
use Rattle.word12.specs.Words.{octal_text}
use Rattle.wordset.specs.Words.{Words, only}
use Rattle.domain.specs.Terms.{Term, Holding, Behind, Summand, Sum}
use Rattle.domain.specs.Chains.{Step, Operates, Ands, Adds, Chain}
use Rattle.domain.specs.Facts.{Relation}
use Rattle.certificate_lines.specs.FieldSpelling.{Registers, digits, rank_text, set_text, offset_set_text, name_text, offsets_text, routine_line, cell_line}
use Rattle.certificate_lines.specs.declared.Version.{Version}
use Rattle.certificate_lines.specs.declared.Version.TheVariants.{One, Two, Three}
use Rattle.certificate_lines.specs.Lines.{Line, RoutineIs, FactIs, ExitIs, CellIs, SumIs, ChainIs, End}

-- Offsets: in versions 1 and 2 their digits, in version 3 their runs with commas between them; - where there are none.
abbrev pub offsets_line : Version → Words → List ℕ
offsets_line One offsets = offsets_text offsets
offsets_line Two offsets = offsets_text offsets
offsets_line Three offsets = offset_set_text offsets

-- The offset of an exit: one digit in versions 1 and 2, and two in version 3.
abbrev pub offset_text : Version → ℕ → List ℕ
offset_text One o = (48 + o) ∷ []
offset_text Two o = (48 + o) ∷ []
offset_text Three o = rank_text o

-- The sites of a fact or an exit, of which versions 1 and 2 say nothing.
abbrev pub sites_text : Version → Words → List ℕ
sites_text One sites = []
sites_text Two sites = []
sites_text Three sites = codes " sites " ++ set_text sites

-- The words of MQ, of which version 1 says nothing.
abbrev pub mq_text : Version → Words → List ℕ
mq_text One mq = []
mq_text Two mq = codes " mq " ++ set_text mq
mq_text Three mq = codes " mq " ++ set_text mq

-- What a line says of the registers.
abbrev pub words_text : Version → Registers → List ℕ
words_text v r = codes " ac " ++ set_text r.ac ++ mq_text v r.mq ++ codes " link " ++ digits 2 r.link

-- A term: AC, a cell, or [X+K].
abbrev pub term_text : Term → List ℕ
term_text (Holding n) = name_text n
term_text (Behind x k) = codes "[" ++ octal_text x ++ codes "+" ++ octal_text k ++ codes "]"

-- A coefficient: + for 1, - for minus one, else its four digits.
abbrev pub coefficient_text : ℕ → List ℕ
coefficient_text c = if c == 1 then codes "+" else (if c == 4095 then codes "-" else octal_text c)

-- A term after the first one, with its coefficient, each after a space.
abbrev pub further_text : Summand → List ℕ
further_text s = codes " " ++ coefficient_text s.coefficient ++ codes " " ++ term_text s.term

-- A sum: its first term, and then the others with their coefficients.
abbrev pub sum_text : Sum → List ℕ
sum_text [] = []
sum_text (s ∷ ss) = term_text s.term ++ flat_map further_text ss

-- The two terms of a difference x - y.
abbrev pub names_text : Sum → List ℕ
names_text [] = []
names_text (s ∷ []) = []
names_text (s ∷ t ∷ ts) = term_text s.term ++ codes " " ++ term_text t.term

-- The digits of a word, if there is one.
abbrev pub word_text : Option ℕ → List ℕ
word_text None = []
word_text (Some w) = octal_text w

-- The line that says x - y is k as versions 1 and 2 have it: the two names and the one word.
abbrev pub equation_line : Relation → List ℕ
equation_line r = codes "equal " ++ names_text r.sum ++ codes " " ++ word_text (only r.set)

-- The line of a relation: in versions 1 and 2 an equation's, in version 3 that of a sum and its set.
abbrev pub relation_line : Version → Relation → List ℕ
relation_line One r = equation_line r
relation_line Two r = equation_line r
relation_line Three r = codes "sum " ++ sum_text r.sum ++ codes " in " ++ set_text r.set

-- A step after a space.
abbrev pub step_text : Step → List ℕ
step_text (Operates w) = codes " " ++ octal_text w
step_text (Ands w) = codes " AND " ++ octal_text w
step_text (Adds w) = codes " TAD " ++ octal_text w

-- The line of a chain: its cell, the number that is added, the links with which it begins, and its steps.
abbrev pub chain_line : Chain → List ℕ
chain_line c =
    codes "func " ++ octal_text c.cell ++ codes " " ++ octal_text c.more ++ codes " link " ++ digits 2 c.link ++
    flat_map step_text c.steps

-- The one spelling of a line, without its line feed.
abbrev pub line_text : Version → Line → List ℕ
line_text v (RoutineIs r) = routine_line r
line_text v (FactIs a s r o) =
    codes "fact " ++ octal_text a ++ sites_text v s ++ words_text v r ++ codes " offsets " ++ offsets_line v o
line_text v (ExitIs e o s r) =
    codes "exit " ++ octal_text e ++ codes " " ++ offset_text v o ++ sites_text v s ++ words_text v r
line_text v (CellIs c) = cell_line c
line_text v (SumIs r) = relation_line v r
line_text v (ChainIs c) = chain_line c
line_text v End = codes "end"

-- The first line of a certificate's text: a name and the version.
abbrev pub version_text : Version → List ℕ
version_text One = codes "PDP8-CERTIFICATE 1"
version_text Two = codes "PDP8-CERTIFICATE 2"
version_text Three = codes "PDP8-CERTIFICATE 3"
