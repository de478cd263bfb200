use Rattle.std.proofs.Common.{◌≡◌}
use Rattle.std.specs.List.{list_any}
use Rattle.streams.specs.Text.{words_of}
use Rattle.streams.specs.TextLeft.{lines_left}
use Rattle.labels.specs.Within.{is_8e, names_8e}
use Rattle.labels.proofs.within.machine_of.Given as goal

-- the lines so far don't name the 8/E
abbrev pub invariant-loop-line : goal.invariant-loop-line
invariant-loop-line l = list_any (λ line. is_8e (words_of line)) (lines_left l.lines) ≡ names_8e l.declaration
