use Rattle.std.proofs.Common.{drop, map}
use Rattle.std.specs.Prelude.{◌↔◌}
use Rattle.declaration.specs.DeclarationInCode.{place_assertion_of}
use Rattle.domain.specs.FactInCode.{fact_in_code}
use Rattle.facts.specs.Conditions.{EachIsHeld}
use Rattle.facts.specs.PlaceInCode.{place_in_code}
use Rattle.facts.proofs.place.Place.each_is_held.Given as goal

abbrev pub invariant-loop-holding : goal.invariant-loop-holding
invariant-loop-holding g l =
    EachIsHeld (place_in_code l.self) (fact_in_code l.fact) l.at (map place_assertion_of (drop l.holding-index l.holds)) ↔ EachIsHeld (place_in_code l.self) (fact_in_code l.fact) l.at (map place_assertion_of l.holds)
