use Rattle.certificate.proofs.SpelledLemmas.{runs_begun, one_written, runs_written}
use Rattle.certificate.proofs.line_text.LineText.runs.Goals as goal

pub loop-run-init : goal.loop-run-init
loop-run-init c = runs_begun _

pub loop-run-preserved : goal.loop-run-preserved
loop-run-preserved c =
    rw c.index-next.ensures.same (one_written _ _ _ _ _ _ _ _ c.loop-run-test.true c.run-item.is c.loop-run.invariant c.comma.ensures c.run.ensures)

pub returns : goal.returns
returns c = runs_written _ _ _ _ _ c.requires c.loop-run-test.false c.loop-run.invariant
