-- A machine into which a tape was loaded.
use Rattle.std.specs.Prelude.{ℕ, nat_lt, if◌then◌else◌, None, unwrap_or, List, Option}
use Rattle.bin_tape.specs.Image.{word_at}
use Rattle.processor.specs.Cells.{Cells, cell_of}
use Rattle.processor.specs.Runs.{Image}
use Rattle.peripherals.specs.declared.Start.{Start}
use Rattle.peripherals.specs.Devices.{WorldState, idle}

-- The image of a tape, as a map; addresses are the numbers below 4096.
abbrev pub image_of : List (Option ℕ) → Image
image_of cells = λ a. (if nat_lt a 4096 then word_at cells a else None)

-- A memory in which the words of a tape have replaced the old ones.
abbrev pub laid : Image → Cells → Cells
laid image memory = λ a. unwrap_or (image a) (memory a)

-- The machine is at its start and runs; its memory has the words of the tape, and otherwise what was there; its devices
-- are idle.
abbrev pub loaded : Image → ℕ → Start → WorldState
loaded image pc start = record {
  state = record {
    ac = start.ac;
    link = start.link;
    mq = start.mq;
    pc = pc;
    memory = laid image (cell_of start.memory);
  };
  devices = idle;
  halted_at = None;
}
