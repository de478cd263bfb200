use Rattle.std.proofs.Common.{sym, ◌∙◌}
use Rattle.wordset.proofs.IterLemmas.{of_set, one_more, one_fails, all_pass}
use Rattle.facts.proofs.AskingLemmas.{within_reach}
use Rattle.facts.proofs.conditions.are_in_reach.Goals as goal

pub loop-site-preserved : goal.loop-site-preserved
loop-site-preserved g c = one_more c.loop-site.invariant c.in-Some.ensures.steps (within_reach _ _ _ c.reach.ensures (c.is_subset.ensures.0 c.if-not-is_subset.false))
