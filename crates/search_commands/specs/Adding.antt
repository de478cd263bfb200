-- What is added to a declaration, out of what another declaration proposes.
use Rattle.std.specs.Prelude.{ℕ, ◌≡◌, ◌<◌, ◌||◌, true, false, Bool, Option, Some, None, is_some}
use Rattle.wordset.specs.Words.{Words}
use Rattle.declaration.specs.Declaration.{Declaration, Routine}

-- Whether the cell is on the list of reads, if there is one.
abbrev pub lists : Option Words → ℕ → Bool
lists None a = false
lists (Some cells) a = cells a

-- Whatever the last declaration allows for a cell, the given one or the proposed one allows too: that the cell is in a
-- body, is an entry, a variable, a stop or a pause, is an entry in which its routine may store, is a place for which
-- calls may be abandoned, or is on the list of reads; and its routine may return at each of the offsets 0 to 77 only if
-- it may do so in one of them. What is declared to hold allows nothing.
pub record AddsToCell (given proposed more : Declaration) (a : ℕ) : Type 0 where
  pub body : (r : Routine) → more.body r a ≡ true → given.body r a || proposed.body r a ≡ true
  pub offset : (o : ℕ) → o < 64 → more.offset a o ≡ true → given.offset a o || proposed.offset a o ≡ true
  pub entry : more.entry a ≡ true → given.entry a || proposed.entry a ≡ true
  pub variable : more.variable a ≡ true → given.variable a || proposed.variable a ≡ true
  pub stop : more.stop a ≡ true → given.stop a || proposed.stop a ≡ true
  pub pause : more.pause a ≡ true → given.pause a || proposed.pause a ≡ true
  pub read : lists more.reads a ≡ true → lists given.reads a || lists proposed.reads a ≡ true
  pub moves : more.moves a ≡ true → given.moves a || proposed.moves a ≡ true
  pub abandon : more.abandon a ≡ true → given.abandon a || proposed.abandon a ≡ true

-- Nothing is allowed beyond the given declaration except what is proposed.
abbrev pub AddsOnly : Declaration → Declaration → Declaration → Type 0
AddsOnly given proposed more = (a : ℕ) → a < 4096 → AddsToCell given proposed more a

-- The second declaration is no wider than the first: the start and the machine are the same, it gives no cell a role or a
-- permission that the first does not give it, and it lists reads exactly if the first does. A step that the first forbids
-- may still be legal under it: if a cell is no longer an entry, a JMP I through it need not be a return. Nothing is said
-- here about what is to hold.
pub record IsNoWider (given less : Declaration) : Type 0 where
  pub start_is : less.start ≡ given.start
  pub profile_is : less.profile ≡ given.profile
  pub adds : AddsOnly given given less
  pub listed : is_some less.reads ≡ is_some given.reads
