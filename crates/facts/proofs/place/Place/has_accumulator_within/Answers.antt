use Rattle.std.proofs.Common.{refl}
use Rattle.facts.specs.PlaceInCode.{place_in_code}
use Rattle.domain.specs.Locations.{Ac}
use Rattle.facts.proofs.ShowingLemmas.{known_inside}
use Rattle.facts.proofs.place.Place.has_accumulator_within.Goals as goal

pub returns-then-is_subset : goal.returns-then-is_subset
returns-then-is_subset g c = (λ t. known_inside (place_in_code c.args.self.now) (g.K.KnownFact.known c.args.fact.now) Ac _ (rw (← c.accumulator.ensures) (c.is_subset.ensures.0 c.if-is_subset.true)), λ w. refl)

pub returns : goal.returns
returns g c = rw (← c.put_known.ensures) c.is_subset-2.ensures
