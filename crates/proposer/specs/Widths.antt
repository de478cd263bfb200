-- When one declaration is as wide as another one.
use Rattle.std.specs.Prelude.{ℕ, ◌≡◌, ◌<◌, true, None}
use Rattle.wordset.specs.Words.{IsWithin, union}
use Rattle.declaration.specs.Declaration.{Declaration, Routine}

-- Whatever the one declaration says of a cell the other says too: each body that has the cell has it still, an entry stays
-- an entry, and its routine may return at each offset, all of which are below 64, at which it might.
pub record KeepsCell (given more : Declaration) (a : ℕ) : Type 0 where
  pub body : (r : Routine) → given.body r a ≡ true → more.body r a ≡ true
  pub entry : given.entry a ≡ true → more.entry a ≡ true
  pub offset : (o : ℕ) → o < 64 → given.offset a o ≡ true → more.offset a o ≡ true

-- The second declaration is as wide as the first: start and machine are the same; each cell is still in the body that it was
-- in, each entry is an entry with all its offsets, and each variable a variable; each halt is a halt, though a pause may have
-- become a stop; each routine that may store in its entry still may, and calls may still be abandoned for each place for which
-- they might; and every cell may be read.
pub record IsAsWide (given more : Declaration) : Type 0 where
  pub start_is : more.start ≡ given.start
  pub profile_is : more.profile ≡ given.profile
  pub cells : (a : ℕ) → a < 4096 → KeepsCell given more a
  pub variables : IsWithin given.variable more.variable
  pub stops : IsWithin given.stop (union more.stop more.pause)
  pub pauses : IsWithin given.pause (union more.stop more.pause)
  pub moves : IsWithin given.moves more.moves
  pub abandon : IsWithin given.abandon more.abandon
  pub reads : more.reads ≡ None
