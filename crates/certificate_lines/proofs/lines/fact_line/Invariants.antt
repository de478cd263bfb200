use Rattle.certificate_lines.specs.Packed.{said_lines}
use Rattle.certificate_lines.proofs.SumWrittenLemmas.{IsPassed}
use Rattle.certificate_lines.proofs.lines.fact_line.Given as goal

abbrev pub invariant-loop-passed : goal.invariant-loop-passed
invariant-loop-passed g l = IsPassed (said_lines l.lines) l.fn.at l.line l._passed
