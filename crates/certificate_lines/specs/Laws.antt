-- What is to be proved of the text of certificates: each line is read as what it was spelled for, and a text is its lines.
use Rattle.std.specs.Prelude.{◌≡◌, ℕ, true, List, ◌++◌, flat_map, Some}
use Rattle.wordset.specs.Words.{Words, all_words, nothing, one}
use Rattle.domain.specs.Locations.{Location}
use Rattle.domain.specs.Terms.{difference_of}
use Rattle.domain.specs.Facts.{Relation}
use Rattle.certificate_lines.specs.FieldSpelling.{Registers, ended}
use Rattle.certificate_lines.specs.RisingLists.{EndsBefore, IsOfLinks}
use Rattle.certificate_lines.specs.declared.Version.{Version}
use Rattle.certificate_lines.specs.declared.Version.TheVariants.{One, Two, Three}
use Rattle.certificate_lines.specs.Lines.{Line, RoutineIs, FactIs, ExitIs, CellIs, SumIs, ChainIs, End}
use Rattle.certificate_lines.specs.Spelling.{line_text, version_text}
use Rattle.certificate_lines.specs.LineOf.{line_of, has_form, most_offsets}
use Rattle.certificate_lines.specs.Reading.{Text}

-- The sites of a fact or an exit can be spelled: in versions 1 and 2 there are none, in version 3 they are words.
abbrev pub SitesFit : Version → Words → Type 0
SitesFit One sites = sites ≡ nothing
SitesFit Two sites = sites ≡ nothing
SitesFit Three sites = EndsBefore 4096 sites

-- The words of MQ can be spelled: in version 1 they are all.
abbrev pub MqFits : Version → Words → Type 0
MqFits One mq = mq ≡ all_words
MqFits Two mq = EndsBefore 4096 mq
MqFits Three mq = EndsBefore 4096 mq

-- The sets of the registers have words and links alone.
pub record RegistersFit (v : Version) (r : Registers) : Type 0 where
  pub ac : EndsBefore 4096 r.ac
  pub mq : MqFits v r.mq
  pub link : IsOfLinks r.link

-- The relation is an equation: the difference of two names is one word.
abbrev pub IsEquation : Relation → Type 0
IsEquation r =
    (x : Location) × (y : Location) × (k : ℕ) × (r.sum ≡ difference_of x y) × (r.set ≡ one k)

-- The relation can be spelled: in versions 1 and 2 as an equation.
abbrev pub RelationFits : Version → Relation → Type 0
RelationFits One r = IsEquation r
RelationFits Two r = IsEquation r
RelationFits Three r = EndsBefore 4096 r.set

-- The version has chains.
abbrev pub HasChains : Version → Type 0
HasChains One = ⊥
HasChains Two = ⊥
HasChains Three = Unit {0}

-- The version can say what the line says: its sets have no larger numbers, and it is not of another version.
abbrev pub LineFits : Version → Line → Type 0
LineFits v (RoutineIs r) = EndsBefore 4096 r.sites × EndsBefore 4096 r.writes
LineFits v (FactIs a s r o) = SitesFit v s × RegistersFit v r × EndsBefore (most_offsets v) o
LineFits v (ExitIs e o s r) = SitesFit v s × RegistersFit v r
LineFits v (CellIs c) = EndsBefore 4096 c.set
LineFits v (SumIs r) = RelationFits v r
LineFits v (ChainIs c) = HasChains v × IsOfLinks c.link
LineFits v End = Unit {0}

-- A line of its form is read as what it was spelled for.
abbrev pub SpelledIsRead : Type 0
SpelledIsRead = (v : Version) (l : Line) → has_form v l ≡ true → LineFits v l → line_of v (line_text v l) ≡ Some l

-- The bytes of a text: its first line and then its lines in order, each with its line feed.
abbrev pub bytes_of : Text → List ℕ
bytes_of t = ended (version_text t.version) ++ flat_map (λ l. ended (line_text t.version l)) t.lines
