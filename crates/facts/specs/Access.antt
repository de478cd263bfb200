-- What a step from a state of a fact reads, writes, calls and stands at is among what the fact says that it may.
use Rattle.std.specs.Prelude.{◌≡◌, ℕ, Bool, true, false}
use Rattle.instruct.specs.Instructions.{Jms}
use Rattle.processor.specs.Cells.{Cells}
use Rattle.processor.specs.Machine.{State, instruction, place}
use Rattle.declaration.specs.Declaration.{IsDeclared}
use Rattle.policy.specs.Calls.{Calls}
use Rattle.policy.specs.Rules.{read_by, written_by}
use Rattle.domain.specs.Facts.{Fact, Place, Means}
use Rattle.domain.specs.Laws.{IsBegun}
use Rattle.facts.specs.States.{IsState, TopIsEntry}
use Rattle.transfer.specs.References.{possible}
use Rattle.facts.specs.Conditions.{may_read, may_write, called, WritesAreDeclared}

-- A state of a fact at a place, of a declared program that was loaded.
pub record IsStateOf (pl : Place) (start : Cells) (f : Fact) (s : State) (ks : Calls) : Type 0 where
  pub declared : IsDeclared pl.declaration
  pub begun : IsBegun pl.image start
  pub state : IsState s
  pub top : TopIsEntry pl.declaration ks
  pub means : Means pl start f s ks

-- From a state of a fact, where what its word writes is declared, a cell that the step reads is one that the word may
-- read by the fact.
abbrev pub ReadsAreForeseen : Type 0
ReadsAreForeseen =
    (pl : Place) (start : Cells) (f : Fact) (s : State) (ks : Calls) (a : ℕ) →
    IsStateOf pl start f s ks → WritesAreDeclared pl f (instruction pl.declaration.profile s) →
    read_by (instruction pl.declaration.profile s) s.memory a ≡ true → may_read pl f (instruction pl.declaration.profile s) a ≡ true

-- From a state of a fact, where what its word writes is declared, a cell that the step writes, a JMS's own cell apart,
-- is one that the word may write by the fact.
abbrev pub WritesAreForeseen : Type 0
WritesAreForeseen =
    (pl : Place) (start : Cells) (f : Fact) (s : State) (ks : Calls) (a : ℕ) →
    IsStateOf pl start f s ks → WritesAreDeclared pl f (instruction pl.declaration.profile s) →
    written_by (instruction pl.declaration.profile s) s.memory a ≡ true → may_write pl f (instruction pl.declaration.profile s) a ≡ true

-- From a state of a fact, where what its word writes is declared, the cell that a JMS calls is one that it may call by
-- the fact.
abbrev pub CallsAreForeseen : Type 0
CallsAreForeseen =
    (pl : Place) (start : Cells) (f : Fact) (s : State) (ks : Calls) (i : Bool) (c : ℕ) →
    IsStateOf pl start f s ks → WritesAreDeclared pl f (instruction pl.declaration.profile s) →
    instruction pl.declaration.profile s ≡ Jms i c → called pl f (Jms i c) (place i c s.memory) ≡ true

-- In a state of a fact a cell that is not an entry holds a word that is possible there by the fact.
abbrev pub WordsAreForeseen : Type 0
WordsAreForeseen =
    (pl : Place) (start : Cells) (f : Fact) (s : State) (ks : Calls) (a : ℕ) →
    IsStateOf pl start f s ks → pl.declaration.entry a ≡ false → possible pl f a (s.memory a) ≡ true
