-- What is to be proved of sums, of what facts say of them, of narrowing, and of what is left of a fact after a change.
use Rattle.std.specs.Prelude.{◌≡◌, ℕ, ◌+◌, ◌*◌, ◌%◌, ◌<◌, Bool, true, false, Some, List, [], ◌∷◌, map}
use Rattle.wordset.specs.Words.{plus, Words, only}
use Rattle.processor.specs.Cells.{Cells, AreWords}
use Rattle.processor.specs.Machine.{State}
use Rattle.processor.specs.Runs.{Image}
use Rattle.policy.specs.Calls.{Calls}
use Rattle.domain.specs.Locations.{Location, Ac, Cell, same, Values, is_outside}
use Rattle.domain.specs.Terms.{Term, Sum, sum_value, with_summand, collected, arranged, multiplied, term_value}
use Rattle.domain.specs.Shapes.{Spelled, spelled, has_shape}
use Rattle.domain.specs.Chains.{Step, after_step, after_count, Chain, all_longer}
use Rattle.domain.specs.Facts.{Relation, Fact, Place, Rules, IsTrueOf, AllTrue, AllGiven, Holds, OwnWord, Means}
use Rattle.domain.specs.Adding.{set_of_sum, adding, adding_all, is_void}
use Rattle.domain.specs.Knowing.{said_of}
use Rattle.domain.specs.Narrowing.{narrowed, words_by, asked_by}
use Rattle.domain.specs.Moves.{free_of, chains_free_of, taking, moved_relation, moved_relations, counted, weakly_updated, counted_up, joined}

-- The tape's words stood in memory at the start.
pub record IsBegun (image : Image) (start : Cells) : Type 0 where
  pub words : AreWords start
  pub loaded : (a w : ℕ) → image a ≡ Some w → start a ≡ w

-- The words of names are words.
abbrev pub AreValues : Values → Type 0
AreValues v = (n : Location) → v n < 4096

-- A sum has the same word after its terms were collected and arranged, and with one summand more it has the word of both.
pub record SumsAreKept : Type 0 where
  pub one_more :
      (v : Values) (start : Cells) (c : ℕ) (t : Term) (sum : Sum) →
      sum_value v start (with_summand c t sum) ≡ plus (c * term_value v start t) (sum_value v start sum)
  pub collected : (v : Values) (start : Cells) (sum : Sum) → sum_value v start (collected sum) ≡ sum_value v start sum
  pub arranged : (v : Values) (start : Cells) (sum : Sum) → sum_value v start (arranged sum) ≡ sum_value v start sum
  pub multiplied :
      (v : Values) (start : Cells) (c : ℕ) (sum : Sum) →
      sum_value v start (multiplied c sum) ≡ (c * sum_value v start sum) % 4096

-- How a sum is spelled: a sum of one of the shapes, with a sign. The sum is as much as this one times the sign, and so the other
-- way round.
pub record SpellsIt (v : Values) (start : Cells) (sum : Sum) (s : Spelled) : Type 0 where
  pub shape : has_shape s.sum ≡ true
  pub whole : sum_value v start sum ≡ (s.sign * sum_value v start s.sum) % 4096
  pub part : sum_value v start s.sum ≡ (s.sign * sum_value v start sum) % 4096

-- Whatever spells a sum says the same.
abbrev pub SpelledIsSo : Type 0
SpelledIsSo = (v : Values) (start : Cells) (sum : Sum) (s : Spelled) → spelled sum ≡ Some s → SpellsIt v start sum s

-- What a fact gives for a sum has the sum's word wherever the fact holds.
abbrev pub GivenIsSo : Type 0
GivenIsSo =
    (start : Cells) (f : Fact) (v : Values) (link : ℕ) (sum : Sum) →
    AreWords start → AreValues v → Holds f v start link → set_of_sum f sum (sum_value v start sum) ≡ true

-- What a fact says of a sum is so wherever the fact holds.
abbrev pub SaidIsSo : Type 0
SaidIsSo =
    (image : Image) (start : Cells) (f : Fact) (v : Values) (link : ℕ) (sum : Sum) →
    IsBegun image start → AreValues v → Holds f v start link → said_of image f sum (sum_value v start sum) ≡ true

-- The two facts say the same of all but the names, and their chains are the same.
pub record SameButSets (f g : Fact) : Type 0 where
  pub chains : g.chains ≡ f.chains
  pub mq : g.mq ≡ f.mq
  pub link : g.link ≡ f.link
  pub sites : g.sites ≡ f.sites
  pub offsets : g.offsets ≡ f.offsets

-- Relations that are added change nothing else.
abbrev pub AddingKeeps : Type 0
AddingKeeps = (rules : Rules) (rs : List Relation) (f : Fact) → SameButSets f (adding_all rules rs f)

-- If a fact holds and a relation is true, the fact holds to which the relation is added.
abbrev pub AddedIsSo : Type 0
AddedIsSo =
    (rules : Rules) (start : Cells) (f : Fact) (v : Values) (link : ℕ) (r : Relation) →
    AreWords start → AreValues v → Holds f v start link → IsTrueOf v start r → Holds (adding rules r f) v start link

-- If a fact holds and several relations are true, the fact holds to which all of them are added.
abbrev pub AllAddedIsSo : Type 0
AllAddedIsSo =
    (rules : Rules) (start : Cells) (f : Fact) (v : Values) (link : ℕ) (rs : List Relation) →
    AreWords start → AreValues v → Holds f v start link → AllTrue v start rs → Holds (adding_all rules rs f) v start link

-- The narrowed fact holds wherever the fact holds, and its links have the link; MQ, sites and offsets are the fact's own.
pub record NarrowsTo (image : Image) (start : Cells) (f : Fact) (v : Values) (link : ℕ) : Type 0 where
  pub holds : Holds (narrowed image f) v start link
  pub links : (narrowed image f).link link ≡ true
  pub mq : (narrowed image f).mq ≡ f.mq
  pub sites : (narrowed image f).sites ≡ f.sites
  pub offsets : (narrowed image f).offsets ≡ f.offsets

-- Of every fact that holds.
abbrev pub NarrowedIsSo : Type 0
NarrowedIsSo =
    (image : Image) (start : Cells) (f : Fact) (v : Values) (link : ℕ) →
    IsBegun image start → AreValues v → link < 2 → f.link link ≡ true → Holds f v start link →
    NarrowsTo image start f v link

-- A narrowed fact holds of each state of the fact.
abbrev pub NarrowedHolds : Type 0
NarrowedHolds =
    (pl : Place) (start : Cells) (f : Fact) (s : State) (ks : Calls) →
    IsBegun pl.image start → AreWords s.memory → s.ac < 4096 → s.link < 2 →
    Means pl start f s ks → Means pl start (narrowed pl.image f) s ks

-- The fact of which everything is asked holds too, by either rules.
abbrev pub AskedHolds : Type 0
AskedHolds =
    (pl : Place) (rules : Rules) (start : Cells) (f : Fact) (s : State) (ks : Calls) →
    IsBegun pl.image start → AreWords s.memory → s.ac < 4096 → s.link < 2 →
    Means pl start f s ks → Means pl start (asked_by rules pl.image f) s ks

-- By either rules, each name's word is one of those that are known of it.
abbrev pub KnownIsSo : Type 0
KnownIsSo =
    (rules : Rules) (image : Image) (start : Cells) (f : Fact) (v : Values) (link : ℕ) (n : Location) →
    IsBegun image start → AreValues v → link < 2 → f.link link ≡ true → Holds f v start link →
    words_by rules image f n (v n) ≡ true

-- A void fact never holds.
abbrev pub VoidNeverHolds : Type 0
VoidNeverHolds =
    (pl : Place) (start : Cells) (f : Fact) (s : State) (ks : Calls) →
    AreWords start → AreWords s.memory → s.ac < 4096 → s.link < 2 → s.mq < 4096 →
    is_void f ≡ true → Means pl start f s ks → ⊥

-- Each name that is not one of these has the word that it had.
abbrev pub KeepsOthers : (Location → Bool) → Values → Values → Type 0
KeepsOthers names v w = (n : Location) → names n ≡ false → w n ≡ v n

-- Relations that speak of none of the names that changed stay true, and so do chains that begin on none of them.
pub record FreeStaysTrue : Type 0 where
  pub relations :
      (names : Location → Bool) (start : Cells) (v w : Values) (rs : List Relation) →
      KeepsOthers names v w → AllTrue v start rs → AllTrue w start (free_of names rs)
  pub chains :
      (names : Location → Bool) (v w : Values) (link : ℕ) (cs : List Chain) →
      KeepsOthers names v w → AllGiven v link cs → AllGiven w link (chains_free_of names cs)

-- If one name took a word of a set, the fact of this holds.
abbrev pub TakingHolds : Type 0
TakingHolds =
    (n : Location) (set : Words) (start : Cells) (f : Fact) (v w : Values) (link : ℕ) →
    KeepsOthers (λ m. same m n) v w → set (w n) ≡ true → Holds f v start link → Holds (taking n set f) w start link

-- A word was added to the word of a cell, and all other names kept theirs.
pub record GoesUp (a d : ℕ) (v w : Values) : Type 0 where
  pub more : w (Cell a) ≡ plus (v (Cell a)) d
  pub others : KeepsOthers (λ m. same m (Cell a)) v w

-- If a word of a set was added to the word of a cell, a relation that was true is true as it moves by the set.
abbrev pub MovedIsSo : Type 0
MovedIsSo =
    (a d : ℕ) (by : Words) (start : Cells) (v w : Values) (r : Relation) →
    GoesUp a d v w → d < 4096 → by d ≡ true → IsTrueOf v start r →
    AllTrue w start (moved_relation a by (only by) r)

-- If a word of a set was added to the word of a cell, relations that were true are true as they move by the set.
abbrev pub AllMovedIsSo : Type 0
AllMovedIsSo =
    (a d : ℕ) (by : Words) (start : Cells) (v w : Values) (rs : List Relation) →
    GoesUp a d v w → d < 4096 → by d ≡ true → AllTrue v start rs →
    AllTrue w start (moved_relations a by rs)

-- A chain stays true if its cell is incremented, as it begins with so much less.
abbrev pub ChainsAreCounted : Type 0
ChainsAreCounted =
    (a d : ℕ) (v w : Values) (link : ℕ) (cs : List Chain) →
    GoesUp a d v w → AllGiven v link cs → AllGiven w link (map (after_count a d) cs)

-- If a cell's word was incremented by 1, the fact of this holds.
abbrev pub CountedHolds : Type 0
CountedHolds =
    (pl : Place) (a : ℕ) (start : Cells) (f : Fact) (v w : Values) (link : ℕ) →
    IsBegun pl.image start → AreValues v → link < 2 → f.link link ≡ true → GoesUp a 1 v w →
    Holds f v start link → Holds (counted pl a f) w start link

-- If one cell of a set took a word of those that it may take, the fact of this holds.
abbrev pub WeaklyUpdatedHolds : Type 0
WeaklyUpdatedHolds =
    (cells : Words) (new : ℕ → Words) (a : ℕ) (start : Cells) (f : Fact) (v w : Values) (link : ℕ) →
    a < 4096 → cells a ≡ true → KeepsOthers (λ m. same m (Cell a)) v w → new a (w (Cell a)) ≡ true →
    Holds f v start link → Holds (weakly_updated cells new f) w start link

-- If a step of a chain made the accumulator and the link, each chain is true with this step more.
abbrev pub LongerIsSo : Type 0
LongerIsSo =
    (p : Step) (v w : Values) (link after : ℕ) (cs : List Chain) →
    KeepsOthers (λ m. same m Ac) v w → after_step p (v Ac, link) ≡ (w Ac, after) → AllGiven v link cs →
    AllGiven w after (all_longer p cs)

-- What the exit and the fact at the JMS say together holds at the return, where the names outside the written set kept their words.
abbrev pub JoinedFactHolds : Type 0
JoinedFactHolds =
    (rules : Rules) (start : Cells) (call exit : Fact) (written : Words) (v w : Values) (before after : ℕ) →
    AreWords start → AreValues w → ((n : Location) → is_outside written n ≡ true → w n ≡ v n) →
    Holds call v start before → Holds exit w start after → Holds (joined rules call exit written) w start after

-- The sites and offsets of what is joined are those of the fact at the JMS, and MQ, the link and the chains those of the exit.
pub record JoinedParts (rules : Rules) (call exit : Fact) (written : Words) : Type 0 where
  pub sites : (joined rules call exit written).sites ≡ call.sites
  pub offsets : (joined rules call exit written).offsets ≡ call.offsets
  pub mq : (joined rules call exit written).mq ≡ exit.mq
  pub link : (joined rules call exit written).link ≡ exit.link
  pub chains : (joined rules call exit written).chains ≡ exit.chains

-- Of every fact and exit.
abbrev pub JoinedKeeps : Type 0
JoinedKeeps = (rules : Rules) (call exit : Fact) (written : Words) → JoinedParts rules call exit written

-- The running routine's return word went up by one.
abbrev pub CountsReturn : Calls → Cells → Cells → Type 0
CountsReturn [] before after = Unit {0}
CountsReturn (k ∷ ks) before after = after k.entry ≡ before k.entry + 1

-- Then it is one of the offsets that are incremented, where it was not the greatest.
abbrev pub CountedUpIsSo : Type 0
CountedUpIsSo =
    (f : Fact) (before after : Cells) (ks : Calls) →
    f.offsets 63 ≡ false → CountsReturn ks before after → OwnWord f before ks →
    OwnWord (record f { offsets = counted_up f.offsets }) after ks
