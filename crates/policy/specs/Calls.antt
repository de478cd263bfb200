-- The call stack of a run. The machine has none: it is kept beside a run, and says which routine is
-- running.
use Rattle.std.specs.Prelude.{ℕ, ◌&&◌, if◌then◌else◌, Some, None, List, [], ◌∷◌}
use Rattle.instruct.specs.Instructions.{Meaning, Jms, Jmp}
use Rattle.processor.specs.Machine.{State, after, instruction, place}
use Rattle.declaration.specs.Declaration.{Routine, Declaration}

-- A call: the entry, and the address after the JMS.
pub record Call : Type 0 where
  pub entry : ℕ
  pub after : ℕ

-- The calls that have not returned, the last one first.
abbrev pub Calls : Type 0
Calls = List Call

-- The running routine: the one called last, or main.
abbrev pub current : Calls → Routine
current [] = None
current (k ∷ ks) = Some k.entry

-- The stack without the last call.
abbrev pub returned : Calls → Calls
returned [] = []
returned (k ∷ ks) = ks

-- The call stack after an instruction: a JMS into an entry pushes a call, a JMP I through an entry pops the last one,
-- and any other JMP to an address for which calls may be abandoned empties the stack.
abbrev pub calls_of : Declaration → Meaning → State → Calls → Calls
calls_of d (Jms i c) s ks =
    if d.entry (place i c s.memory) then record { entry = place i c s.memory; after = after s.pc 1 } ∷ ks else ks
calls_of d (Jmp i c) s ks =
    if i && d.entry c then returned ks else (if d.abandon (place i c s.memory) then [] else ks)
calls_of d _ s ks = ks

-- The call stack after the instruction at the program counter.
abbrev pub calls_after : Declaration → State → Calls → Calls
calls_after d s ks = calls_of d (instruction d.profile s) s ks
