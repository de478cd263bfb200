-- The one spelling of sets, names, registers, routines and cells in the text of a certificate.
use Rattle.std.specs.Prelude.{ℕ, ◌+◌, ◌-◌, ◌/◌, ◌%◌, ◌==◌, Bool, not, ◌&&◌, ◌||◌, if◌then◌else◌, List, [], ◌∷◌, ◌++◌, codes}
use Rattle.std.proofs.Common.{zero, suc}
use Rattle.word12.specs.Words.{octal_text}
use Rattle.wordset.specs.Words.{Words, some_below}
use Rattle.domain.specs.Locations.{Location, Ac, Cell}
use Rattle.domain.specs.TrackedCells.{TrackedCell}

-- A routine: its entry, its rank, where it is called and what it may write.
pub record RoutineLine : Type 0 where
  pub entry : ℕ
  pub rank : ℕ
  pub sites : Words
  pub writes : Words

-- A maximal run of a set's words begins.
abbrev pub begins : Words → ℕ → Bool
begins set a = set a && (a == 0 || not (set (a - 1)))

-- A maximal run of a set's words ends.
abbrev pub ends : Words → ℕ → Bool
ends set a = set a && (a == 4095 || not (set (a + 1)))

-- What is written at a number, where a number has this text: where a run begins its first number, after a comma if another came
-- before; where one ends that has more numbers its last one, after a dash.
abbrev pub mark : (ℕ → List ℕ) → Words → ℕ → List ℕ
mark text set a =
    (if begins set a then (if some_below a set then codes "," else []) ++ text a else []) ++
    (if ends set a && not (begins set a) then codes "-" ++ text a else [])

-- What is written at the numbers below n, in rising order.
unfoldable pub marks : (ℕ → List ℕ) → ℕ → Words → List ℕ
marks text zero set = []
marks text (suc n) set = marks text n set ++ mark text set n

-- The numbers of a set that are below n, - where there are none.
abbrev pub numbers_text : (ℕ → List ℕ) → ℕ → Words → List ℕ
numbers_text text n set = if some_below n set then marks text n set else codes "-"

-- A set of words.
abbrev pub set_text : Words → List ℕ
set_text set = numbers_text octal_text 4096 set

-- The two octal digits of a rank or an offset.
abbrev pub rank_text : ℕ → List ℕ
rank_text n = (48 + n / 8) ∷ (48 + n % 8) ∷ []

-- A set of offsets of two digits.
abbrev pub offset_set_text : Words → List ℕ
offset_set_text set = numbers_text rank_text 64 set

-- The digits below n that are in a set, in rising order.
unfoldable pub digits : ℕ → Words → List ℕ
digits zero set = []
digits (suc n) set = digits n set ++ (if set n then (48 + n) ∷ [] else [])

-- Offsets, - where there are none.
abbrev pub offsets_text : Words → List ℕ
offsets_text offsets = if some_below 8 offsets then digits 8 offsets else codes "-"

-- A name: AC or a cell.
abbrev pub name_text : Location → List ℕ
name_text Ac = codes "AC"
name_text (Cell a) = octal_text a

-- The words of the accumulator and of MQ, and the links.
pub record Registers : Type 0 where
  pub ac : Words
  pub mq : Words
  pub link : Words

-- The spelling of a routine's line, without its line feed: the entry, the rank in two octal digits, the sites, and the
-- cells that may be written.
abbrev pub routine_line : RoutineLine → List ℕ
routine_line r =
    codes "routine " ++ octal_text r.entry ++ codes " rank " ++ rank_text r.rank ++ codes " sites " ++ set_text r.sites ++
    codes " writes " ++ set_text r.writes

-- The spelling of a tracked cell's line, without its line feed: the address, and the words that the cell may hold.
abbrev pub cell_line : TrackedCell → List ℕ
cell_line c = codes "cell " ++ octal_text c.address ++ codes " " ++ set_text c.set

-- A line with its line feed, which is 10.
abbrev pub ended : List ℕ → List ℕ
ended bytes = bytes ++ 10 ∷ []
