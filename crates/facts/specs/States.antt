-- States of the machine, and the words that change no call stack.
use Rattle.std.specs.Prelude.{◌≡◌, ℕ, ◌<◌, true, false, [], ◌∷◌}
use Rattle.instruct.specs.Instructions.{Meaning, Jms, Jmp}
use Rattle.processor.specs.Cells.{AreWords}
use Rattle.processor.specs.Machine.{State}
use Rattle.declaration.specs.Declaration.{Declaration}
use Rattle.policy.specs.Calls.{Calls}

-- The registers and the cells of a state hold words, and the link a bit.
pub record IsState (s : State) : Type 0 where
  pub ac : s.ac < 4096
  pub link : s.link < 2
  pub mq : s.mq < 4096
  pub pc : s.pc < 4096
  pub words : AreWords s.memory

-- The running routine is an entry.
abbrev pub TopIsEntry : Declaration → Calls → Type 0
TopIsEntry d [] = Unit {0}
TopIsEntry d (k ∷ ks) = d.entry k.entry ≡ true

-- No JMS and no return, which change the call stack.
abbrev pub IsOrdinary : Declaration → Meaning → Type 0
IsOrdinary d (Jms i c) = ⊥
IsOrdinary d (Jmp i c) = i ≡ true → d.entry c ≡ false
IsOrdinary d _ = Unit {0}
