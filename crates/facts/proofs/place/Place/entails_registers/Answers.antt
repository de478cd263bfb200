use Rattle.facts.specs.PlaceInCode.{place_in_code}
use Rattle.domain.specs.FactInCode.{fact_in_code}
use Rattle.facts.proofs.ShowingLemmas.{registers_iff, registers_not_link, registers_not_offsets, registers_not_mq, registers_not_sites}
use Rattle.transfer.proofs.EntailLemmas.{not_both}
use Rattle.facts.proofs.place.Place.entails_registers.Goals as goal

pub returns-then-not-is_subset : goal.returns-then-not-is_subset
returns-then-not-is_subset g c = registers_not_link (place_in_code c.args.self.now) (g.K.KnownFact.known c.args.fact.now) (fact_in_code c.args.other.now) _ _ c.link.ensures c.link-2.ensures
    (not_both _ c.if-not-is_subset.true c.is_subset.ensures.1)

pub returns-then-not-is_subset-2 : goal.returns-then-not-is_subset-2
returns-then-not-is_subset-2 g c = registers_not_offsets (place_in_code c.args.self.now) (g.K.KnownFact.known c.args.fact.now) (fact_in_code c.args.other.now) _ _ c.offsets.ensures c.offsets-2.ensures
    (not_both _ c.if-not-is_subset-2.true c.is_subset-2.ensures.1)

pub returns-then-not-is_subset-3 : goal.returns-then-not-is_subset-3
returns-then-not-is_subset-3 g c = registers_not_mq (place_in_code c.args.self.now) (g.K.KnownFact.known c.args.fact.now) (fact_in_code c.args.other.now) _ _ c.mq.ensures c.mq-2.ensures
    (not_both _ c.if-not-is_subset-3.true c.is_subset-3.ensures.1)

pub returns-then-not-is_subset-4 : goal.returns-then-not-is_subset-4
returns-then-not-is_subset-4 g c = registers_not_sites (place_in_code c.args.self.now) (g.K.KnownFact.known c.args.fact.now) (fact_in_code c.args.other.now) _ _ c.sites.ensures c.sites-2.ensures
    (not_both _ c.if-not-is_subset-4.true c.is_subset-4.ensures.1)

pub returns : goal.returns
returns g c = registers_iff (place_in_code c.args.self.now) (g.K.KnownFact.known c.args.fact.now) (fact_in_code c.args.other.now) c.has_accumulator_within.result _ _ _ _ _ _ _ _ _
    c.link.ensures c.link-2.ensures c.offsets.ensures c.offsets-2.ensures c.mq.ensures c.mq-2.ensures c.sites.ensures c.sites-2.ensures c.accumulator.ensures
    (c.is_subset.ensures.0 c.if-not-is_subset.false) (c.is_subset-2.ensures.0 c.if-not-is_subset-2.false) (c.is_subset-3.ensures.0 c.if-not-is_subset-3.false)
    (c.is_subset-4.ensures.0 c.if-not-is_subset-4.false) c.has_accumulator_within.ensures
