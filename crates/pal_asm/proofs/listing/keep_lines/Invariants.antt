use Rattle.std.proofs.Common.{◌≡◌, ◌++◌, ◌+◌, drop}
use Rattle.pal_asm.specs.Sources.{text_lines}
use Rattle.pal_asm.specs.SourceInCode.{lines_in}
use Rattle.pal_asm.proofs.listing.keep_lines.Given as goal

abbrev pub invariant-loop-at : goal.invariant-loop-at
invariant-loop-at g l =
    lines_in l.kept.items ++ text_lines l.front.number (l.at + 1) l.front.bytes.now (drop l.at l.lines)
    ≡ lines_in l.fn.kept.items ++ text_lines l.front.number 1 l.front.bytes.now l.lines
