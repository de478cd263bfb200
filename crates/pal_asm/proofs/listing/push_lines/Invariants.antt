use Rattle.std.proofs.Common.{◌≡◌, ◌++◌, drop}
use Rattle.pal_asm.specs.SourceInCode.{lines_in, turns_text}
use Rattle.pal_asm.proofs.listing.push_lines.Given as goal

abbrev pub invariant-loop-line : goal.invariant-loop-line
invariant-loop-line g l = l.text.items ++ turns_text (lines_in (drop l.line-index l.lines)) l.rest ≡ l.fn.text.items ++ turns_text (lines_in l.lines) l.words
