use Rattle.std.proofs.Common.{take}
use Rattle.certificate.proofs.SpelledLemmas.{RunsWritten}
use Rattle.certificate.proofs.line_text.LineText.runs.Given as goal

abbrev pub invariant-loop-run : goal.invariant-loop-run
invariant-loop-run l = RunsWritten l.fn.self.bytes.items l.self.bytes.items (take l.run-index l.runs) l.next
