use Rattle.std.proofs.Common.{drop}
use Rattle.std.specs.Prelude.{◌↔◌}
use Rattle.facts.specs.Entailment.{EntailsOne}
use Rattle.facts.specs.PlaceInCode.{place_in_code}
use Rattle.facts.proofs.place.Place.entails_one.Given as goal

abbrev pub invariant-loop-at : goal.invariant-loop-at
invariant-loop-at g l = EntailsOne (place_in_code l.self) (g.K.KnownFact.known l.fact) (drop l.at (g.F.FactSource.facts l.among)) ↔ EntailsOne (place_in_code l.self) (g.K.KnownFact.known l.fact) (g.F.FactSource.facts l.among)
