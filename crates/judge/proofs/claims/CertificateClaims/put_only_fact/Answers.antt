use Rattle.judge.proofs.ClaimsLemmas.{none_there, one_there, two_there, has_shape_too}
use Rattle.judge.proofs.claims.CertificateClaims.put_only_fact.Goals as goal

pub returns-then-not-next_fact : goal.returns-then-not-next_fact
returns-then-not-next_fact g c = none_there _ _ c.facts_from-line.ensures.all (c.next_fact.ensures.none c.if-not-next_fact.true)

pub returns-then-skip_fact : goal.returns-then-skip_fact
returns-then-skip_fact g c = two_there _ _ _ _ _ c.facts_from-line.ensures.all (c.next_fact.ensures.next c.if-not-next_fact.false) (c.skip_fact.ensures.next c.if-skip_fact.true)

pub returns : goal.returns
returns g c = (one_there _ _ _ _ c.facts_from-line.ensures.all (c.next_fact.ensures.next c.if-not-next_fact.false) (c.skip_fact.ensures.none c.if-skip_fact.false), has_shape_too _ (c.next_fact.ensures.shape c.if-not-next_fact.false))
