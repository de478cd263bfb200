use Rattle.std.proofs.Common.{arith}
use Rattle.judge.proofs.ClaimsLemmas.{counted_all, counted_more, counted_none}
use Rattle.judge.proofs.claims.CertificateClaims.count_facts.Goals as goal

pub loop-at-init : goal.loop-at-init
loop-at-init g c = record { stands = c.facts_from-line.ensures.stands; few = omega arith; counted = counted_none _ _ c.facts_from-line.ensures.all }

pub loop-at-preserved : goal.loop-at-preserved
loop-at-preserved g c = record { stands = c.skip_fact.ensures.stands; few = omega (arith, c.loop-at.invariant.few, c.skip_fact.ensures.after c.loop-at-test.true); counted = counted_more _ _ c.loop-at.count _ (c.skip_fact.ensures.next c.loop-at-test.true) c.loop-at.invariant.counted }

pub returns : goal.returns
returns g c = counted_all _ c.loop-at.count _ (c.skip_fact.ensures.none c.loop-at-test.false) c.loop-at.invariant.counted

pub overflow_add-count : goal.overflow_add-count
overflow_add-count g c = omega (arith, c.loop-at.invariant.few, c.skip_fact.ensures.after c.loop-at-test.true, c.skip_fact.ensures.fits c.loop-at-test.true)
