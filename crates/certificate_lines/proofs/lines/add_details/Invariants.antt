use Rattle.std.proofs.Common.{drop}
use Rattle.certificate_lines.specs.Packed.{said_lines}
use Rattle.certificate_lines.proofs.SumDetailLemmas.{AddedSofar}
use Rattle.certificate_lines.proofs.lines.add_details.Given as goal

abbrev pub invariant-loop-at : goal.invariant-loop-at
invariant-loop-at g l = AddedSofar l.fn.fact l.fact (drop l.start (said_lines l.lines)) (drop l.at (said_lines l.lines))
