-- Sets packed as runs, and what is said of routines and registers by them.
use Rattle.std.specs.Prelude.{◌≡◌, ℕ, ◌+◌, ◌<◌, ◌≤◌, List, [], ◌∷◌, ◌++◌, length, drop, slice_range}
use Rattle.wordset.specs.Words.{Words, all_words, nothing, between, union, meet}
use Rattle.wordset.specs.Links.{links_of}
use Rattle.certificate_lines.specs.declared.runs.Run.{Run}
use Rattle.certificate_lines.specs.declared.runs.RunCounts.{RunCounts}
use Rattle.certificate_lines.specs.declared.runs.PackedRoutine.{PackedRoutine}
use Rattle.certificate_lines.specs.declared.runs.PackedRegisters.{PackedRegisters}
use Rattle.certificate_lines.specs.FieldSpelling.{RoutineLine, Registers}

-- The list begins with another.
abbrev pub Begins : {X : Type 0} → List X → List X → Type 0
Begins {X = X} old new = (more : List X) × (new ≡ old ++ more)

-- A set with the words of runs.
abbrev pub joined : Words → List Run → Words
joined set [] = set
joined set (r ∷ rs) = joined (union set (between r.first r.last)) rs

-- The set of which these are the runs; none of its words is past the last one that there is.
unfoldable pub set_of_runs : List Run → Words
set_of_runs runs = meet all_words (joined nothing runs)

-- Each of the runs has a word, the first one from n on, and each further one past a word after those of the run before.
abbrev pub StandApart : ℕ → List Run → Type 0
StandApart n [] = Unit {0}
StandApart n (r ∷ rs) = (n ≤ r.first) × (r.first ≤ r.last) × (r.last < 4096) × StandApart (r.last + 2) rs

-- The set of which the runs that were added to others are.
abbrev pub added : List Run → List Run → Words
added old new = set_of_runs (drop (length old) new)

-- The set of which so many runs from a place on are.
abbrev pub set_at : List Run → ℕ → ℕ → Words
set_at runs first count = set_of_runs (slice_range runs first (first + count))

-- The first of two sets: that of so many runs at the front.
abbrev pub one_at : List Run → RunCounts → Words
one_at runs s = set_at runs 0 s.one

-- The second of two sets: that of so many runs after those of the first set.
abbrev pub other_at : List Run → RunCounts → Words
other_at runs s = set_at runs s.one s.other

-- What a packed routine's line says, whose runs these are: the first of its two sets is its sites, the second the cells that it
-- may write.
abbrev pub routine_at : List Run → PackedRoutine → RoutineLine
routine_at runs r = record { entry = r.entry; rank = r.rank; sites = one_at runs r.sets; writes = other_at runs r.sets }

-- What packed registers say, whose runs these are: the first of the two sets is the accumulator's, the second that of MQ; the
-- links are not kept as runs.
abbrev pub registers_at : List Run → PackedRegisters → Registers
registers_at runs r = record { ac = one_at runs r.sets; mq = other_at runs r.sets; link = links_of r.link }

-- The runs of two sets lie among so many.
pub record AreWithin (n : ℕ) (s : RunCounts) : Type 0 where
  pub inside : s.one + s.other ≤ n

-- These are the runs of two sets.
pub record AreLaid (runs : List Run) (s : RunCounts) (one other : Words) : Type 0 where
  pub within : AreWithin (length runs) s
  pub one_is : one_at runs s ≡ one
  pub other_is : other_at runs s ≡ other
