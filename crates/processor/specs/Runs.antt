-- Runs of the instruction table: any number of steps, each with some answer. A run continues after a
-- HLT.
use Rattle.std.specs.Prelude.{ℕ, ◌≡◌, ◌<◌, Option, Some, List, [], ◌∷◌}
use Rattle.instruct.specs.declared.Profile.{Profile}
use Rattle.processor.specs.Cells.{AreWords}
use Rattle.processor.specs.Machine.{State, Answer, Step}

-- For each address, the word that a tape puts there, or none.
abbrev pub Image : Type 0
Image = ℕ → Option ℕ

-- A start of the machine at an address: memory holds the tape's words; the accumulator, the link, MQ and every cell
-- that is not on the tape may hold anything.
pub record IsStart (image : Image) (at : ℕ) (s : State) : Type 0 where
  pub pc : s.pc ≡ at
  pub ac : s.ac < 4096
  pub link : s.link < 2
  pub mq : s.mq < 4096
  pub words : AreWords s.memory
  pub loaded : (a w : ℕ) → image a ≡ Some w → s.memory a ≡ w

-- One step of a run: the state before it, and its answer.
pub record Taken : Type 0 where
  pub before : State
  pub answer : Answer

-- From s these steps lead to t.
abbrev pub Run : Profile → State → List Taken → State → Type 0
Run profile s [] t = s ≡ t
Run profile s (k ∷ ks) t = (k.before ≡ s) × (m : State) × Step profile s k.answer m × Run profile m ks t
