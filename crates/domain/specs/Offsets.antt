-- Offsets of a return word as they're kept in code.
use Rattle.std.specs.Prelude.{◌==◌, ◌&&◌, nat_lt}
use Rattle.std.specs.Int.{bit_at}
use Rattle.wordset.specs.Words.{Words}
use Rattle.domain.specs.declared.return_offsets.ReturnOffsets.{ReturnOffsets}

-- The offsets that are meant, each of them below 64: the offset o where bit o is set, the least bit being bit 0.
abbrev pub offsets_in : ReturnOffsets → Words
offsets_in r o = nat_lt o 64 && (bit_at r.bits o == 1)

-- All offsets by which a return word may have been incremented, 0 to 77.
abbrev pub every_offset : Words
every_offset o = nat_lt o 64
