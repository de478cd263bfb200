use Rattle.std.proofs.Common.{arith}
use Rattle.judge.proofs.ClaimsLemmas.{counted_all, counted_more, counted_none}
use Rattle.judge.proofs.claims.CertificateClaims.count_exits.Goals as goal

pub loop-entry-init : goal.loop-entry-init
loop-entry-init g c = record { stands = c.exits_from-line.ensures.stands; few = omega arith; counted = counted_none _ _ c.exits_from-line.ensures.all }

pub loop-entry-preserved : goal.loop-entry-preserved
loop-entry-preserved g c = record { stands = c.skip_exit.ensures.stands; few = omega (arith, c.loop-entry.invariant.few, c.skip_exit.ensures.after c.loop-entry-test.true); counted = counted_more _ _ c.loop-entry.count _ (c.skip_exit.ensures.next c.loop-entry-test.true) c.loop-entry.invariant.counted }

pub returns : goal.returns
returns g c = counted_all _ c.loop-entry.count _ (c.skip_exit.ensures.none c.loop-entry-test.false) c.loop-entry.invariant.counted

pub overflow_add-count : goal.overflow_add-count
overflow_add-count g c = omega (arith, c.loop-entry.invariant.few, c.skip_exit.ensures.after c.loop-entry-test.true, c.skip_exit.ensures.fits c.loop-entry-test.true)
