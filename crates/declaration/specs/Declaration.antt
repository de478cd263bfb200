-- A declaration: what the author of a program promises about its runs.
use Rattle.std.specs.Prelude.{◌≡◌, ℕ, ◌<◌, true, false, ◌⊎◌, Option, Some, None, List}
use Rattle.instruct.specs.declared.Profile.{Profile}
use Rattle.wordset.specs.Words.{Words}
use Rattle.processor.specs.Machine.{is_auto_index}
use Rattle.declaration.specs.declared.Subject.{Subject}

-- A routine is known by its entry; None is the main program.
abbrev pub Routine : Type 0
Routine = Option ℕ

-- An assertion: the subject has one of these words.
pub record Assertion : Type 0 where
  pub subject : Subject
  pub words : Words

-- An assertion that must hold whenever control is at one of these addresses, before the instruction
-- there.
pub record PlaceAssertion : Type 0 where
  pub places : Words
  pub assertion : Assertion

-- An assertion that must hold whenever the routine with this entry returns by one of these offsets.
pub record ReturnAssertion : Type 0 where
  pub entry : ℕ
  pub offsets : Words
  pub assertion : Assertion

-- The start; for each routine the cells of its body; the entries, and for each the offsets at which it may return; the
-- variable cells; the declared halts, at a stop or at a pause; the machine; the cells that may be read, if they are
-- listed; the entries in which their routines may store; the addresses for which all open calls may be abandoned; and
-- the assertions about addresses and about returns.
pub record Declaration : Type 0 where
  pub start : ℕ
  pub body : Routine → Words
  pub entry : Words
  pub offset : ℕ → Words
  pub variable : Words
  pub stop : Words
  pub pause : Words
  pub profile : Profile
  pub reads : Option Words
  pub moves : Words
  pub abandon : Words
  pub holds : List PlaceAssertion
  pub returns : List ReturnAssertion

-- The overlap rules. Bodies are disjoint; an entry is not in a body, not a variable and not an auto-index cell; no cell
-- is both a stop and a pause; the program starts in main's body and halts in bodies; each cell that `moves` names is an
-- entry; and each address for which calls may be abandoned is in main's body.
pub record IsDeclared (d : Declaration) : Type 0 where
  pub start_is_word : d.start < 4096
  pub entry_is_word : (e : ℕ) → d.entry e ≡ true → e < 4096
  pub start_in_main : d.body None d.start ≡ true
  pub bodies_apart : (a : ℕ) (r q : Routine) → d.body r a ≡ true → d.body q a ≡ true → r ≡ q
  pub body_of_routine : (a e : ℕ) → d.body (Some e) a ≡ true → d.entry e ≡ true
  pub entry_not_in_body : (e : ℕ) (r : Routine) → d.entry e ≡ true → d.body r e ≡ false
  pub entry_not_variable : (e : ℕ) → d.entry e ≡ true → d.variable e ≡ false
  pub entry_not_index : (e : ℕ) → d.entry e ≡ true → is_auto_index e ≡ false
  pub stop_not_pause : (a : ℕ) → d.pause a ≡ true → d.stop a ≡ false
  pub halt_in_body : (a : ℕ) → (d.stop a ≡ true) ⊎ (d.pause a ≡ true) → (r : Routine) × (d.body r a ≡ true)
  pub moves_entry : (e : ℕ) → d.moves e ≡ true → d.entry e ≡ true
  pub abandon_in_main : (a : ℕ) → d.abandon a ≡ true → d.body None a ≡ true

-- If reads are listed, the cell is on the list.
abbrev pub IsListed : Option Words → ℕ → Type 0
IsListed None a = Unit {0}
IsListed (Some cells) a = cells a ≡ true
