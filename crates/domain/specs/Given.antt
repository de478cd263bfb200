-- What a chain gives of words of its cell, as it is gathered in code. This serves private contracts.
use Rattle.std.specs.Prelude.{◌≡◌, ℕ, ◌==◌, Bool, ◌&&◌, ◌||◌}
use Rattle.wordset.specs.Words.{plus, Words, some_below, nothing, all_words, all_links}
use Rattle.wordset.specs.Lanes.{words}
use Rattle.wordset.specs.Links.{links_of}
use Rattle.domain.specs.Chains.{Chain, gives}
use Rattle.domain.specs.ChainsInCode.{gives_from}
use Rattle.domain.specs.declared.narrowing.ChainWords.{ChainWords}

-- The pair of an accumulator w and a link l is this one, and the sets allow both.
abbrev pub is_allowed_pair : Words → Words → ℕ → ℕ → ℕ → ℕ → Bool
is_allowed_pair ac links made after w l = ac w && (links l && ((made == w) && (after == l)))

-- A chain gives the accumulator w and the link l of the cell's word v, where it begins with the link k, and the sets allow both.
abbrev pub gives_allowed_from : Words → Words → Chain → ℕ → ℕ → ℕ → ℕ → Bool
gives_allowed_from ac links c k v w l = ac w && (links l && gives_from c k v w l)

-- A chain gives the accumulator w and the link l of the cell's word v with some first link, and the sets allow both.
abbrev pub gives_allowed : Words → Words → Chain → ℕ → ℕ → ℕ → Bool
gives_allowed ac links c v w l = ac w && (links l && gives c v w l)

-- A chain gives the link l of the cell's word v, where it begins with the link k, with an accumulator of a set.
abbrev pub gives_link_from : Words → Chain → ℕ → ℕ → ℕ → Bool
gives_link_from ac c k v l = some_below 4096 (λ w. ac w && gives_from c k v w l)

-- A chain gives the link l of the cell's word v with some first link, with an accumulator of a set.
abbrev pub gives_link : Words → Chain → ℕ → ℕ → Bool
gives_link ac c v l = some_below 4096 (λ w. ac w && gives c v w l)

-- There is not a word and no link.
pub record IsEmpty (c : ChainWords) : Type 0 where
  pub cells : words c.cells ≡ nothing
  pub accumulators : words c.accumulators ≡ nothing
  pub differences : words c.differences ≡ nothing
  pub links : links_of c.links ≡ nothing

-- What is given of a word x by a test of an accumulator and a link: the word itself, if any pair passes the test.
abbrev pub cells_given : (ℕ → ℕ → Bool) → ℕ → Words
cells_given g x v = (v == x) && some_below 4096 (λ w. some_below 2 (λ l. g w l))

-- The accumulators that are given: those that pass the test with some link.
abbrev pub accumulators_given : (ℕ → ℕ → Bool) → ℕ → Words
accumulators_given g x w = some_below 2 (λ l. g w l)

-- The differences that are given: the accumulators that pass the test, less the word x.
abbrev pub differences_given : (ℕ → ℕ → Bool) → ℕ → Words
differences_given g x d = all_words d && some_below 2 (λ l. g (plus x d) l)

-- The links that are given: those that pass the test with some accumulator.
abbrev pub links_given : (ℕ → ℕ → Bool) → ℕ → Words
links_given g x l = all_links l && some_below 4096 (λ w. g w l)

-- All that is given of a word is added.
pub record AddsGiven (g : ℕ → ℕ → Bool) (x : ℕ) (old new : ChainWords) : Type 0 where
  pub cells : (v : ℕ) → words new.cells v ≡ (words old.cells v || cells_given g x v)
  pub accumulators : (w : ℕ) → words new.accumulators w ≡ (words old.accumulators w || accumulators_given g x w)
  pub differences : (d : ℕ) → words new.differences d ≡ (words old.differences d || differences_given g x d)
  pub links : (l : ℕ) → links_of new.links l ≡ (links_of old.links l || links_given g x l)

-- All that is given of the words of a set is added.
pub record AddsAllGiven (g : ℕ → ℕ → ℕ → Bool) (set : Words) (old new : ChainWords) : Type 0 where
  pub cells : (v : ℕ) → words new.cells v ≡ (words old.cells v || some_below 4096 (λ x. set x && cells_given (g x) x v))
  pub accumulators : (w : ℕ) → words new.accumulators w ≡ (words old.accumulators w || some_below 4096 (λ x. set x && accumulators_given (g x) x w))
  pub differences : (d : ℕ) → words new.differences d ≡ (words old.differences d || some_below 4096 (λ x. set x && differences_given (g x) x d))
  pub links : (l : ℕ) → links_of new.links l ≡ (links_of old.links l || some_below 4096 (λ x. set x && links_given (g x) x l))
