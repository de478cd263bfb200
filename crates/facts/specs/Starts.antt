-- The fact of all starts, and that landing of it is asked rightly.
use Rattle.std.specs.Prelude.{◌≡◌, ℕ, ◌<◌, false, ◌↔◌, None, List, []}
use Rattle.std.specs.List.{AllByRecursion}
use Rattle.wordset.specs.Words.{Words, all_words, all_links, nothing, one}
use Rattle.processor.specs.Machine.{State}
use Rattle.processor.specs.Runs.{Image, IsStart}
use Rattle.domain.specs.Locations.{Location, Ac, Cell, same, tape_word}
use Rattle.domain.specs.Terms.{difference_of}
use Rattle.domain.specs.Facts.{Relation, Fact, Place, OfEquations, Means, SomeMeans}
use Rattle.facts.specs.TapeWords.{AreTapeWords}
use Rattle.facts.specs.Entailment.{Entails, Lands}

-- At a start a cell on the tape holds its word; the accumulator and any other cell may hold any word.
abbrev pub words_at_start : Image → Location → Words
words_at_start image Ac = all_words
words_at_start image (Cell a) = tape_word (image a)

-- The fact of all starts: AC, MQ and the link are any, each cell on the tape holds its word, and no routine was called.
abbrev pub start_fact : Image → Fact
start_fact image = record {
  set = words_at_start image;
  relations = [];
  chains = [];
  mq = all_words;
  link = all_links;
  sites = nothing;
  offsets = nothing;
}

-- The fact of all starts holds of every start of the machine in main, with no call open.
abbrev pub StartFactHolds : Type 0
StartFactHolds =
    (pl : Place) (s : State) → pl.routine ≡ None → IsStart pl.image pl.declaration.start s →
    Means pl s.memory (start_fact pl.image) s []

-- If it lands among facts, one of them holds of every start.
abbrev pub StartsLand : Type 0
StartsLand =
    (pl : Place) (among : List Fact) (s : State) → pl.routine ≡ None → Lands pl (start_fact pl.image) among →
    IsStart pl.image pl.declaration.start s → SomeMeans pl s.memory among s []

-- The fact holds of every start of the machine, with no call open.
abbrev pub HoldsOfStarts : Place → Fact → Type 0
HoldsOfStarts pl f =
    (s : State) → IsStart pl.image pl.declaration.start s → Means pl s.memory f s []

-- A relation as versions 1 and 2 of certificates have it: the difference of two names, which are not the same, is one word.
pub record IsEquation (r : Relation) : Type 0 where
  pub left : Location
  pub right : Location
  pub more : ℕ
  pub different : same left right ≡ false
  pub sum : r.sum ≡ difference_of left right
  pub set : r.set ≡ one more

-- By the rules of equations the test of a start is exact: the fact of all starts entails a fact of equations if and only if
-- that fact holds of every start.
abbrev pub StartsAreExact : Type 0
StartsAreExact =
    (pl : Place) (f : Fact) → pl.rules ≡ OfEquations → AreTapeWords pl.image → pl.routine ≡ None →
    pl.declaration.start < 4096 → AllByRecursion IsEquation f.relations → f.chains ≡ [] →
    Entails pl (start_fact pl.image) f ↔ HoldsOfStarts pl f
