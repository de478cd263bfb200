use Rattle.policy.proofs.watcher.Watcher.next.Goals as goal

pub returns-in-Step-clause-watches : goal.returns-in-Step-clause-watches
returns-in-Step-clause-watches g c = rw c.in-Step.is c.step.ensures.watches

pub returns-in-Step-clause-only_growth : goal.returns-in-Step-clause-only_growth
returns-in-Step-clause-only_growth g c = rw c.in-Step.is c.step.ensures.only_growth
