-- Certificates: what a guesser claims of a program, and a checker tests.
use Rattle.std.specs.Prelude.{ℕ, Bool, true, false, ◌||◌, Some, None, List, [], ◌∷◌}
use Rattle.wordset.specs.Words.{Words, nothing, some_below}
use Rattle.processor.specs.Runs.{Image}
use Rattle.declaration.specs.Declaration.{Routine, Declaration}
use Rattle.domain.specs.Facts.{Fact, Place, Rules}

-- The rules by which its facts are taken further; for each routine that is listed its rank, the addresses of the JMS words that
-- call it and the cells that it and its callees may write; the facts at each address, of which one holds whenever the
-- run is there; and for each entry and offset the facts of which one holds when the routine returns so. A certificate of version
-- 1 or 2 has at most one fact at an address and for an offset, which says nothing of sites: they are its routine's.
pub record Certificate : Type 0 where
  pub rules : Rules
  pub listed : Words
  pub rank : ℕ → ℕ
  pub sites : ℕ → Words
  pub writes : ℕ → Words
  pub facts : ℕ → List Fact
  pub exits : ℕ → ℕ → List Fact

-- The list has a fact.
abbrev pub has_any : List Fact → Bool
has_any [] = false
has_any (f ∷ fs) = true

-- The cells that the certificate says a routine and its callees may write. For main, of which nothing is listed, it is
-- the empty set.
abbrev pub writes_of : Certificate → Routine → Words
writes_of c None = nothing
writes_of c (Some e) = c.writes e

-- The place of the facts in a routine's body.
abbrev pub place_of : Image → Declaration → Certificate → Routine → Place
place_of image d c r = record { image = image; declaration = d; routine = r; rules = c.rules }

-- It is said what holds when the routine of the entry returns by some offset.
abbrev pub has_exits : Certificate → Words
has_exits c e = some_below 64 (λ o. has_any (c.exits e o))

-- A routine of this entry is listed, or it is said what holds when it returns by some offset.
abbrev pub names_routine : Certificate → ℕ → Bool
names_routine c e = c.listed e || has_exits c e

-- The addresses at which something is claimed: those of facts, and the entries of the routines that are named.
abbrev pub claimed : Certificate → Words
claimed c a = c.listed a || (has_any (c.facts a) || has_exits c a)
