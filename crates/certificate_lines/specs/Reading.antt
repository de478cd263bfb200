-- What a text is read as, and which certificate its lines make.
use Rattle.std.specs.Prelude.{ℕ, ◌+◌, ◌==◌, nat_lt, Bool, true, false, ◌&&◌, if◌then◌else◌, List, [], ◌∷◌, length, take, Option, Some, None, Result, Ok, Err}
use Rattle.std.specs.List.{list_any}
use Rattle.std.specs.Str.{bytes_eq}
use Rattle.wordset.specs.Words.{Words, nothing}
use Rattle.domain.specs.Locations.{Location, Ac, Cell}
use Rattle.domain.specs.TrackedCells.{TrackedCell, tracked}
use Rattle.domain.specs.Chains.{Chain}
use Rattle.domain.specs.Facts.{Relation, Fact}
use Rattle.certificate_lines.specs.declared.CertificateFault.{CertificateFault}
use Rattle.certificate_lines.specs.declared.CertificateFault.TheVariants as faults
use Rattle.certificate_lines.specs.FieldSpelling.{RoutineLine, Registers}
use Rattle.certificate_lines.specs.Pieces.{most_bytes, pieces}
use Rattle.certificate_lines.specs.Certificate.{Certificate}
use Rattle.certificate_lines.specs.declared.Version.{Version}
use Rattle.certificate_lines.specs.declared.Version.TheVariants.{One, Two, Three}
use Rattle.certificate_lines.specs.Lines.{Line, RoutineIs, FactIs, ExitIs, CellIs, SumIs, ChainIs, is_end, rules_of}
use Rattle.certificate_lines.specs.Spelling.{version_text}
use Rattle.certificate_lines.specs.LineOf.{line_of}
use Rattle.certificate_lines.specs.Order.{may_stand, comes_in_order, has_room, oldest}

-- The tracked cells of a fact or an exit: those of the lines after its own, up to the first line that is no detail.
abbrev pub cells_under : List Line → List TrackedCell
cells_under [] = []
cells_under (CellIs c ∷ ls) = c ∷ cells_under ls
cells_under (SumIs r ∷ ls) = cells_under ls
cells_under (ChainIs c ∷ ls) = cells_under ls
cells_under (_ ∷ ls) = []

-- The relations of a fact or an exit.
abbrev pub relations_under : List Line → List Relation
relations_under [] = []
relations_under (CellIs c ∷ ls) = relations_under ls
relations_under (SumIs r ∷ ls) = r ∷ relations_under ls
relations_under (ChainIs c ∷ ls) = relations_under ls
relations_under (_ ∷ ls) = []

-- The chains of a fact or an exit.
abbrev pub chains_under : List Line → List Chain
chains_under [] = []
chains_under (CellIs c ∷ ls) = chains_under ls
chains_under (SumIs r ∷ ls) = chains_under ls
chains_under (ChainIs c ∷ ls) = c ∷ chains_under ls
chains_under (_ ∷ ls) = []

-- The words of each name: those of AC, and those of the lines of the cell.
abbrev pub sets_of : Words → List TrackedCell → Location → Words
sets_of ac cells Ac = ac
sets_of ac cells (Cell a) = tracked a cells

-- The fact that a line says with the lines after it.
abbrev pub fact_said : Words → Registers → Words → List Line → Fact
fact_said sites r offsets ls = record {
  set = sets_of r.ac (cells_under ls);
  relations = relations_under ls;
  chains = chains_under ls;
  mq = r.mq;
  link = r.link;
  sites = sites;
  offsets = offsets;
}

-- All offsets. An exit's fact has all of them, since nothing is required of them.
abbrev pub all_offsets : Words
all_offsets o = nat_lt o 64

-- The facts at an address, in the order of their lines.
abbrev pub facts_at : List Line → ℕ → List Fact
facts_at [] a = []
facts_at (FactIs b s r o ∷ ls) a = if b == a then fact_said s r o ls ∷ facts_at ls a else facts_at ls a
facts_at (_ ∷ ls) a = facts_at ls a

-- The exits of an entry for an offset, in the order of their lines.
abbrev pub exits_at : List Line → ℕ → ℕ → List Fact
exits_at [] e o = []
exits_at (ExitIs d p s r ∷ ls) e o =
    if (d == e) && (p == o) then fact_said s r all_offsets ls ∷ exits_at ls e o else exits_at ls e o
exits_at (_ ∷ ls) e o = exits_at ls e o

-- The line of a routine by its entry, if there is one.
abbrev pub routine_at : List Line → ℕ → Option RoutineLine
routine_at [] e = None
routine_at (RoutineIs r ∷ ls) e = if r.entry == e then Some r else routine_at ls e
routine_at (_ ∷ ls) e = routine_at ls e

-- What a routine's line says, or nothing if there is none.
abbrev pub is_listed : Option RoutineLine → Bool
is_listed None = false
is_listed (Some r) = true

-- Its rank, and 0 where there is no such line.
abbrev pub rank_in : Option RoutineLine → ℕ
rank_in None = 0
rank_in (Some r) = r.rank

-- The addresses of the calls that it lists, and none if there is no such line.
abbrev pub sites_in : Option RoutineLine → Words
sites_in None = nothing
sites_in (Some r) = r.sites

-- The cells that the routine and its callees may write, and none if there is no such line.
abbrev pub writes_in : Option RoutineLine → Words
writes_in None = nothing
writes_in (Some r) = r.writes

-- A text that was read: its version and the lines after the first one, the oldest first.
pub record Text : Type 0 where
  pub version : Version
  pub lines : List Line

-- The certificate that a text makes.
abbrev pub certificate_of : Text → Certificate
certificate_of t = record {
  rules = rules_of t.version;
  listed = λ e. is_listed (routine_at t.lines e);
  rank = λ e. rank_in (routine_at t.lines e);
  sites = λ e. sites_in (routine_at t.lines e);
  writes = λ e. writes_in (routine_at t.lines e);
  facts = facts_at t.lines;
  exits = exits_at t.lines;
}

-- Where reading stands: before the first line; after these lines of a text of this version, of which the newest is the first; or at a
-- fault, which stays.
pub data Progress : Type 0 where
  Start : Progress
  After : Version → List Line → Progress
  Failed : CertificateFault → Progress

-- A first line names the version.
abbrev pub begun : List ℕ → Progress
begun line =
    if bytes_eq line (version_text One) then After One []
    else (if bytes_eq line (version_text Two) then After Two []
    else (if bytes_eq line (version_text Three) then After Three [] else Failed faults.Version))

-- Where reading stands after a further line: after it, or at its first fault: it is none, no such line may stand there, it is out of
-- order, or there is no room for it. The first line, which names the version, is line 1.
abbrev pub with_line : Version → List Line → Option Line → Progress
with_line v before None = Failed (faults.BadLine (length before + 2))
with_line v before (Some l) =
    if may_stand before l then
    (if comes_in_order v before l then (if has_room before l then After v (l ∷ before) else Failed faults.TooMany)
    else Failed (faults.Order (length before + 2)))
    else Failed (faults.BadLine (length before + 2))

-- Where reading stands after one line more.
abbrev pub after_line : Progress → List ℕ → Progress
after_line Start line = begun line
after_line (After v before) line = with_line v before (line_of v line)
after_line (Failed fault) line = Failed fault

-- The answer where these bytes come after the text's last line feed: a text if the line of the end was read and no byte follows.
-- Of a text that is too long these bytes are not the last: if no line before has a fault, it has too many bytes.
abbrev pub at_last : Bool → Progress → List ℕ → Result Text CertificateFault
at_last long (Failed fault) rest = Err fault
at_last true Start rest = Err faults.TooMany
at_last true (After v before) rest = Err faults.TooMany
at_last false Start rest = Err faults.Version
at_last false (After v before) rest =
    if list_any is_end before && length rest == 0 then Ok (record { version = v; lines = oldest before })
    else Err (faults.BadLine (length before + 2))

-- The answer of a text whose lines are these, the last of which is what comes after the last line feed.
abbrev pub answer_from : Bool → Progress → List (List ℕ) → Result Text CertificateFault
answer_from long p [] = at_last long p []
answer_from long p (rest ∷ []) = at_last long p rest
answer_from long p (line ∷ next ∷ lines) = answer_from long (after_line p line) (next ∷ lines)

-- The answer of a text: of its bytes up to the most that there may be, and whether there are more.
unfoldable pub reading : List ℕ → Result Text CertificateFault
reading bytes = answer_from (nat_lt most_bytes (length bytes)) Start (pieces (take most_bytes bytes))
