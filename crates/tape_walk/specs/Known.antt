-- What a walk knows of the cells of a program.
use Rattle.std.specs.Prelude.{ℕ, Bool, ◌||◌, List, Option, Some, None, if◌then◌else◌}
use Rattle.wordset.specs.Lanes.{words}
use Rattle.bin_tape.specs.Image.{word_at}
use Rattle.processor.specs.Machine.{is_auto_index}
use Rattle.tape_walk.specs.declared.effect.MemoryReference.{MemoryReference}
use Rattle.tape_walk.specs.declared.known.KnownCells.{KnownCells}

-- The word of a cell may become another one than it is on the tape: the cell is an auto-index cell, it is stored in, or
-- it is an entry.
abbrev pub may_change : KnownCells → ℕ → Bool
may_change known cell = is_auto_index cell || (words known.stored cell || words known.entries cell)

-- The address that a memory reference refers to, if the words of a tape tell: the cell that it names or, if it is
-- indirect, the word that the tape has for this cell, unless it may change.
abbrev pub address_told : KnownCells → List (Option ℕ) → MemoryReference → Option ℕ
address_told known image reference =
    if reference.is_indirect then (if may_change known reference.named then None else word_at image reference.named)
    else Some reference.named
