use Rattle.std.proofs.Common.{arith}
use Rattle.facts.specs.PlaceInCode.{place_in_code}
use Rattle.domain.specs.FactInCode.{fact_in_code}
use Rattle.facts.proofs.SplitLemmas.{one_found, one_step, one_none}
use Rattle.transfer.proofs.EntailLemmas.{not_both}
use Rattle.facts.proofs.place.Place.entails_one.Goals as goal

pub returns-then-entails : goal.returns-then-entails
returns-then-entails g c = one_found (place_in_code c.args.self.now) (g.K.KnownFact.known c.args.fact.now) (g.F.FactSource.facts c.args.among.now) c.loop-at.at (omega (arith, c.loop-at-test.true, c.len-at-end.ensures)) (fact_in_code c.put.new.fact) c.put.ensures (c.entails.ensures.0 c.if-entails.true) c.loop-at.invariant

pub loop-at-preserved : goal.loop-at-preserved
loop-at-preserved g c = one_step (place_in_code c.args.self.now) (g.K.KnownFact.known c.args.fact.now) (g.F.FactSource.facts c.args.among.now) c.loop-at.at (omega (arith, c.loop-at-test.true, c.len-at-end.ensures)) (fact_in_code c.put.new.fact) c.put.ensures (not_both _ c.if-entails.false c.entails.ensures.1) c.loop-at.invariant

pub returns : goal.returns
returns g c = one_none (place_in_code c.args.self.now) (g.K.KnownFact.known c.args.fact.now) (g.F.FactSource.facts c.args.among.now) c.loop-at.at (omega (arith, c.loop-at-test.false, c.len-at-end.ensures)) c.loop-at.invariant
