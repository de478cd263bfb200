use Rattle.std.proofs.Common.{◌≡◌, take}
use Rattle.wordset.specs.Words.{nothing}
use Rattle.wordset.specs.Lanes.{words}
use Rattle.certificate_lines.specs.Runs.{joined}
use Rattle.certificate_lines.proofs.runs.put_runs.Given as goal

abbrev pub invariant-loop-run : goal.invariant-loop-run
invariant-loop-run l = words l.place ≡ joined nothing (take l.run-index l.runs)
