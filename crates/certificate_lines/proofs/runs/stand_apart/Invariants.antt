use Rattle.std.proofs.Common.{List, ◌++◌, take}
use Rattle.certificate_lines.specs.declared.runs.Run.{Run}
use Rattle.certificate_lines.specs.Runs.{StandApart}
use Rattle.certificate_lines.proofs.runs.stand_apart.Given as goal

abbrev pub invariant-loop-run : goal.invariant-loop-run
invariant-loop-run l = (rest : List Run) → StandApart l.next rest → StandApart 0 (take l.run-index l.runs ++ rest)
