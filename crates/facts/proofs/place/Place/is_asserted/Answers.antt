use Rattle.std.proofs.Common.{refl}
use Rattle.declaration.specs.DeclarationInCode.{assertion_of}
use Rattle.domain.specs.FactInCode.{fact_in_code}
use Rattle.facts.specs.PlaceInCode.{place_in_code}
use Rattle.facts.proofs.HeldLemmas.{denied_not}
use Rattle.facts.proofs.place.Place.is_asserted.Goals as goal

pub returns-in-None : goal.returns-in-None
returns-in-None g c = (λ so. c.in-None.ensures.none, λ so. refl)

pub returns-in-Some : goal.returns-in-Some
returns-in-Some g c = denied_not (place_in_code c.args.self.now) (fact_in_code c.args.fact.now) (assertion_of c.args.assertion.now) _ c.in-Some.ensures.denied
