use Rattle.std.proofs.Common.{◌≡◌}
use Rattle.std.specs.List.{list_any}
use Rattle.streams.specs.Text.{words_of}
use Rattle.streams.specs.TextLeft.{lines_left}
use Rattle.labels.specs.Located.{lacks_address, lacks_some}
use Rattle.labels.proofs.located.lacks_some.Given as goal

-- no line so far leaves out its address
abbrev pub invariant-loop-line : goal.invariant-loop-line
invariant-loop-line l = list_any (λ line. lacks_address (words_of line)) (lines_left l.lines) ≡ lacks_some l.text
