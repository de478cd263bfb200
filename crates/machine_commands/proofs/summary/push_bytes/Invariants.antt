use Rattle.std.proofs.Common.{◌≡◌, ◌++◌, take}
use Rattle.machine_commands.specs.Summary.{bytes_text}
use Rattle.machine_commands.proofs.summary.push_bytes.Given as goal

abbrev pub invariant-loop-byte : goal.invariant-loop-byte
invariant-loop-byte g l = l.text.items ≡ l.initial.text.items ++ bytes_text (take l.byte-index l.bytes)
