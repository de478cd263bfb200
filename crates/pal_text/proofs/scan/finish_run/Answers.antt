use Rattle.std.proofs.Common.{◌∙◌, arith}
use Rattle.pal_text.proofs.Fronts.{onward_run}
use Rattle.pal_text.proofs.scan.finish_run.Goals as goal

pub returns : goal.returns
returns g c =
    onward_run c.args.source.now c.args.at c.args.out.now.items c.len-count.result c.index-last.result.now c.run_on-run.result (c.len-count.ensures ∙ c.args.out.now.ok.0) (omega arith) c.index-last.ensures c.run_on-run.ensures
