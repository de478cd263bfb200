use Rattle.std.proofs.Common.{refl}
use Rattle.facts.specs.PlaceInCode.{place_in_code}
use Rattle.domain.specs.Locations.{Cell}
use Rattle.facts.proofs.ShowingLemmas.{known_inside}
use Rattle.facts.proofs.place.Place.has_cell_within.Goals as goal

pub returns-then-has_plainly_within : goal.returns-then-has_plainly_within
returns-then-has_plainly_within g c = (λ t. known_inside (place_in_code c.args.self.now) (g.K.KnownFact.known c.args.fact.now) (Cell c.args.entry.now.cell) _ (c.has_plainly_within.ensures c.if-has_plainly_within.true), λ w. refl)

pub returns-then-has_within_at : goal.returns-then-has_within_at
returns-then-has_within_at g c = (λ t. known_inside (place_in_code c.args.self.now) (g.K.KnownFact.known c.args.fact.now) (Cell c.args.entry.now.cell) _ (c.has_within_at.ensures c.if-has_within_at.true), λ w. refl)
