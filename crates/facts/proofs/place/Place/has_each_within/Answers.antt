use Rattle.facts.proofs.ShowingLemmas.{within_step, within_fails}
use Rattle.transfer.proofs.EntailLemmas.{not_both}
use Rattle.facts.specs.PlaceInCode.{place_in_code}
use Rattle.domain.specs.CellsInCode.{cell_set_of}
use Rattle.facts.proofs.place.Place.has_each_within.Goals as goal

pub returns-then-not-has_cell_within : goal.returns-then-not-has_cell_within
returns-then-not-has_cell_within g c = within_fails cell_set_of (place_in_code c.args.self.now) (g.K.KnownFact.known c.args.fact.now) _ _ _ c.loop-entry-test.true c.entry-item.is (not_both _ c.if-not-has_cell_within.true c.has_cell_within.ensures.1) c.loop-entry.invariant

pub loop-entry-preserved : goal.loop-entry-preserved
loop-entry-preserved g c = within_step cell_set_of (place_in_code c.args.self.now) (g.K.KnownFact.known c.args.fact.now) _ _ _ c.loop-entry-test.true c.entry-item.is (c.has_cell_within.ensures.0 c.if-not-has_cell_within.false) c.loop-entry.invariant
