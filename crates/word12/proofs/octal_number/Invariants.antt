use Rattle.std.proofs.Common.{◌≡◌, ◌<◌, take}
use Rattle.word12.specs.Octal.{octal_value}
use Rattle.word12.proofs.octal_number.Given as goal

abbrev pub invariant-loop-digit : goal.invariant-loop-digit
invariant-loop-digit l = (l.value ≡ octal_value (take l.digit-index l.text)) × (l.value < 4096)
