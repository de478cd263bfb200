use Rattle.std.proofs.Common.{◌-◌}
use Rattle.wordset.specs.Lanes.{words}
use Rattle.certificate_lines.proofs.ApartLemmas.{RunsSofar}
use Rattle.certificate_lines.proofs.runs.push_runs.Given as goal

abbrev pub invariant-loop-first : goal.invariant-loop-first
invariant-loop-first g l = RunsSofar l.fn.runs.items l.runs.items (words l.set) l.next

abbrev pub decreases-loop-first : goal.decreases-loop-first
decreases-loop-first g l = 4096 - l.next
