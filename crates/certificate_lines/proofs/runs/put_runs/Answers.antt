use Rattle.certificate_lines.proofs.PackedLemmas.{run_joined, all_joined}
use Rattle.certificate_lines.proofs.runs.put_runs.Goals as goal

pub loop-run-preserved : goal.loop-run-preserved
loop-run-preserved c =
    run_joined _ _ c.args.runs.now _ c.run-item.result c.loop-run-test.true c.run-item.is c.loop-run.invariant
    c.insert_run.ensures

pub returns : goal.returns
returns c = all_joined _ c.args.runs.now c.loop-run.run-index c.loop-run-test.false c.loop-run.invariant
