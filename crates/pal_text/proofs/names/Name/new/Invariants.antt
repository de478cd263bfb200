use Rattle.std.proofs.Common.{◌≡◌, ◌≤◌, ◌<◌, length, take}
use Rattle.pal_text.specs.Characters.{characters}
use Rattle.pal_text.proofs.NamesLemmas.{first_six}
use Rattle.pal_text.proofs.names.Name.new.Given as goal

abbrev pub invariant-loop-byte : goal.invariant-loop-byte
invariant-loop-byte l =
    (l.letters ≡ first_six (characters (take l.byte-index l.bytes)))
    × (l.count < 6 → l.count ≡ length (characters (take l.byte-index l.bytes)))
    × (6 ≤ l.count → 6 ≤ length (characters (take l.byte-index l.bytes)))
    × (l.count ≤ 6)
