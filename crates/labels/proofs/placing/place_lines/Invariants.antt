use Rattle.std.proofs.Common.{◌≡◌, ◌+◌, ◌≤◌}
use Rattle.labels.specs.Lines.{length_behind, lines_behind, placed_lines, prefixed}
use Rattle.labels.proofs.placing.place_lines.Given as goal

-- what is written with what the lines left say is all
abbrev pub invariant-loop-rest : goal.invariant-loop-rest
invariant-loop-rest g l = record {
  placed : prefixed l.out.items (placed_lines l.own.entries (l.number + 1) (lines_behind l.rest)) ≡ prefixed l.fn.out.items (placed_lines l.own.entries (l.before + 1) (lines_behind l.behind));
  within : l.number + length_behind l.rest ≤ 65536;
}

abbrev pub decreases-loop-rest : goal.decreases-loop-rest
decreases-loop-rest g l = length_behind l.rest
