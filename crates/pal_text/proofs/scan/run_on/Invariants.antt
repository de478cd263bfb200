use Rattle.std.proofs.Common.{◌-◌, length}
use Rattle.pal_text.specs.Scan.{IsRun}
use Rattle.pal_text.proofs.scan.run_on.Given as goal

abbrev pub invariant-loop-run : goal.invariant-loop-run
invariant-loop-run l = IsRun l.source l.fn.kind l.fn.end l.fn.from l.run

abbrev pub decreases-loop-run : goal.decreases-loop-run
decreases-loop-run l = length l.source - l.run.at
