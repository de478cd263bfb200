use Rattle.std.proofs.Common.{◌∙◌, ap}
use Rattle.wordset.specs.Words.{Words, difference}
use Rattle.wordset.specs.Lanes.{words}
use Rattle.certificate_lines.proofs.ApartLemmas.{no_runs, run_added, all_runs, few_runs}
use Rattle.certificate_lines.proofs.runs.push_runs.Goals as goal

pub loop-first-init : goal.loop-first-init
loop-first-init g c = no_runs _ _

pub loop-first-preserved : goal.loop-first-preserved
loop-first-preserved g c =
    rw c.index-next.ensures.same (run_added _ _ _ _ _ _ _ c.loop-first.invariant c.in-Some.ensures c.last_before-last.ensures
    (c.minus-others.ensures ∙ ap (λ (f : Words). difference f (words c.args.set.now)) c.all.ensures) c.in_ok-push.ensures.items)

pub returns-clause-whole : goal.returns-clause-whole
returns-clause-whole g c = all_runs _ _ _ _ c.loop-first.invariant c.in_default.ensures

pub returns-clause-few : goal.returns-clause-few
returns-clause-few g c = few_runs _ _ _ _ c.loop-first.invariant
