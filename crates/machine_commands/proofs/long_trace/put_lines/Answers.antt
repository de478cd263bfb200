use Rattle.machine_commands.proofs.LongTraceLemmas.{some_more, some_none}
use Rattle.machine_commands.proofs.long_trace.put_lines.Goals as goal

pub loop-index-init : goal.loop-index-init
loop-index-init g c = record { wrote = some_none _; unmarked = c.requires }

pub loop-index-preserved : goal.loop-index-preserved
loop-index-preserved g c = record {
  wrote = some_more _ _ _ c.loop-index.invariant.wrote c.in_ok-put_line.ensures.wrote;
  unmarked = c.in_ok-put_line.ensures.marks;
}

pub returns-then-not-goes_on-clause-wrote : goal.returns-then-not-goes_on-clause-wrote
returns-then-not-goes_on-clause-wrote g c = some_more _ _ _ c.loop-index.invariant.wrote c.in_ok-put_line.ensures.wrote

pub returns-clause-wrote : goal.returns-clause-wrote
returns-clause-wrote g c = c.loop-index.invariant.wrote
