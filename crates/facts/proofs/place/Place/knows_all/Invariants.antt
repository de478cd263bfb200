use Rattle.std.proofs.Common.{drop, map}
use Rattle.std.specs.Prelude.{◌↔◌}
use Rattle.facts.specs.Entailment.{KnowsAll}
use Rattle.facts.specs.PlaceInCode.{place_in_code}
use Rattle.domain.specs.RelationsInCode.{relation_of}
use Rattle.facts.proofs.place.Place.knows_all.Given as goal

abbrev pub invariant-loop-relation : goal.invariant-loop-relation
invariant-loop-relation g l = KnowsAll (place_in_code l.self) (g.K.KnownFact.known l.fact) (map relation_of (drop l.relation-index l.relations)) ↔ KnowsAll (place_in_code l.self) (g.K.KnownFact.known l.fact) (map relation_of l.relations)
