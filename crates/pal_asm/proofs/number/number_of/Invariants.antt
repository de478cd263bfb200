use Rattle.std.proofs.Common.{◌≡◌, ◌≤◌, drop}
use Rattle.pal_text.specs.Characters.{characters}
use Rattle.pal_asm.specs.Numbers.{number}
use Rattle.pal_asm.proofs.Digits.{number_from}
use Rattle.pal_asm.proofs.number.number_of.Given as goal

abbrev pub invariant-loop-byte : goal.invariant-loop-byte
invariant-loop-byte l = (number_from l.base l.value (characters (drop l.byte-index l.bytes)) ≡ number l.base (characters l.bytes)) × (l.value ≤ 4096)
