-- The summary of a run.
use Rattle.std.specs.Prelude.{ℕ, Bool, true, false, ◌+◌, ◌/◌, ◌%◌, ◌==◌, if◌then◌else◌, List, [], ◌∷◌, ◌++◌, codes, decimal, length, Option, Some, None}
use Rattle.std.specs.Borrow.{Bor}
use Rattle.std.proofs.Common.{zero, suc}
use Rattle.word12.specs.Words.{octal_text}
use Rattle.command_parts.specs.declared.options.SummaryForm.{SummaryForm}
use Rattle.processor.specs.Cells.{Cells}
use Rattle.processor.specs.Machine.{State}
use Rattle.peripherals.specs.Devices.{WorldState}
use Rattle.machine_commands.specs.declared.follow.End.{End}
use Rattle.machine_commands.specs.declared.follow.End.TheVariants.{Halted, Unsupported, Bound, Stopped, Interrupted}
use Rattle.machine_commands.specs.Trace.{link_text}

-- How a run ended and where: stuck at an unsupported word, halted by the HLT at this address, at its bound, stopped as asked, or interrupted by
-- a key.
abbrev pub end_text : End → List ℕ
end_text (Unsupported at) = codes "UNSUPPORTED " ++ octal_text at
end_text (Halted at) = codes "HALT " ++ octal_text at
end_text (Bound at) = codes "BOUND " ++ octal_text at
end_text (Stopped at) = codes "STOPPED " ++ octal_text at
end_text (Interrupted at) = codes "INTERRUPTED " ++ octal_text at

-- The accumulator, the link and the program counter, as the first line of a summary shows them; MQ is not shown.
abbrev pub registers_text : State → List ℕ
registers_text s =
    codes " AC=" ++ octal_text s.ac ++ (codes " L=" ++ link_text s.link) ++ codes " PC=" ++ octal_text s.pc

-- The first line: the end, the registers, and how many instructions were carried out.
abbrev pub state_line : End → WorldState → ℕ → List ℕ
state_line end w steps =
    end_text end ++ registers_text w.state ++ (codes " STEPS=" ++ decimal steps ++ codes "\n")

-- A byte after a space, as three octal digits.
abbrev pub byte_text : ℕ → List ℕ
byte_text b = 32 ∷ (48 + b / 64) ∷ (48 + b / 8 % 8) ∷ (48 + b % 8) ∷ []

-- Bytes in their order, each after a space as three octal digits.
abbrev pub bytes_text : List ℕ → List ℕ
bytes_text [] = []
bytes_text (b ∷ bs) = byte_text b ++ bytes_text bs

-- What a device put out, under its name; nothing if it put out nothing.
abbrev pub output_line : List ℕ → List ℕ → List ℕ
output_line name [] = []
output_line name (b ∷ bs) = name ++ bytes_text (b ∷ bs) ++ codes "\n"

-- The line of a cell, if it is named: its address and its word. A cell that is not has no line.
abbrev pub cell_line : Bool → ℕ → ℕ → List ℕ
cell_line true at word = octal_text at ++ codes " " ++ octal_text word ++ codes "\n"
cell_line false at word = []

-- The lines of the named cells below an address, rising.
unfoldable pub cells_below : (ℕ → Bool) → Cells → ℕ → List ℕ
cells_below named memory zero = []
cells_below named memory (suc at) = cells_below named memory at ++ cell_line (named at) at (memory at)

-- The lines of all cells that are named, rising: each with its word in a world.
abbrev pub cells_text : (ℕ → Bool) → WorldState → List ℕ
cells_text named w = cells_below named w.state.memory 4096

-- The word for so many frames.
abbrev pub frames_word : ℕ → List ℕ
frames_word n = if n == 1 then codes " frame to " else codes " frames to "

-- What was punched into the file with this name: the number of frames; nothing if nothing was punched.
abbrev pub saved_line : List ℕ → List ℕ → List ℕ
saved_line name [] = []
saved_line name (b ∷ bs) = codes "PUNCHED " ++ decimal (length (b ∷ bs)) ++ frames_word (length (b ∷ bs)) ++ name ++ codes "\n"

-- The line of what was punched: the bytes, or their number where they go to a file.
abbrev pub punched_line : Option (Bor (List ℕ)) → List ℕ → List ℕ
punched_line None bytes = output_line (codes "PUNCHED") bytes
punched_line (Some name) bytes = saved_line name.now bytes

-- The line of what was printed; nothing if that was seen.
abbrev pub printed_line : Bool → List ℕ → List ℕ
printed_line true bytes = []
printed_line false bytes = output_line (codes "PRINTED") bytes

-- The summary of a run that ended so in this world, with so many instructions carried out: the first line, and a line each of what was
-- printed, unless that was seen, and of what was punched, where there is any.
abbrev pub summary_as : SummaryForm → End → WorldState → ℕ → List ℕ
summary_as form end w steps =
    state_line end w steps ++ printed_line form.seen w.devices.printer.output ++ punched_line form.saved_in w.devices.punch.output

-- That summary, and after it the named cells with their words.
abbrev pub closing_as : SummaryForm → (ℕ → Bool) → End → WorldState → ℕ → List ℕ
closing_as form named end w steps = summary_as form end w steps ++ cells_text named w

-- The form of a summary that shows all.
abbrev pub whole_form : SummaryForm
whole_form = record { apart = false; seen = false; saved_in = None }

-- What stands at the end of a run that ended so in this world: the summary, and after it the named cells with their words.
abbrev pub closing : (ℕ → Bool) → End → WorldState → ℕ → List ℕ
closing named end w steps = closing_as whole_form named end w steps
