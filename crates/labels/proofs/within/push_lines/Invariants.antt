use Rattle.std.proofs.Common.{◌≡◌, ◌++◌, ◌+◌, drop}
use Rattle.labels.specs.Within.{declared_part}
use Rattle.labels.proofs.within.push_lines.Given as goal

-- what is written with what the lines left declare is all
abbrev pub invariant-loop-at : goal.invariant-loop-at
invariant-loop-at g l =
    l.text.items ++ declared_part l.words l.part.number (l.at + 1) l.part.source.now (drop l.at l.lines)
    ≡ l.fn.text.items ++ declared_part l.words l.part.number 1 l.part.source.now l.lines
