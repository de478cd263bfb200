-- A set gone through word by word.
use Rattle.std.specs.Prelude.{◌≡◌, ℕ, ◌+◌, List, Option, MatchOption}
use Rattle.wordset.specs.Words.{IsFirstFrom, HasNoneFrom}
use Rattle.wordset.specs.Lanes.{words}
use Rattle.wordset.specs.declared.iter.Iter.{Iter}

-- The iterator goes through the set of these lanes, and its next word is the least from a number on.
pub record GoesFrom (lanes : List ℕ) (from : ℕ) (it : Iter) : Type 0 where
  pub set : it.set.now ≡ lanes
  pub next : it.next ≡ from

-- The iterator gives the least word of its set from its place on, and goes on behind that word through the same set; it
-- gives none if none is left.
abbrev pub GivesFirst : Iter → Option ℕ → Iter → Type 0
GivesFirst before given after = MatchOption given
    (HasNoneFrom before.next (words before.set.now))
    (λ w. IsFirstFrom before.next (words before.set.now) w × GoesFrom before.set.now (w + 1) after)
