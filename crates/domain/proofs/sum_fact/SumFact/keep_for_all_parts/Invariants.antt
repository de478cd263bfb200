use Rattle.std.proofs.Common.{◌≡◌, drop, map}
use Rattle.wordset.specs.Lanes.{words}
use Rattle.peripherals.specs.Loading.{image_of}
use Rattle.domain.specs.LocationsInCode.{location_of}
use Rattle.domain.specs.Facts.{Fact, OfSums}
use Rattle.domain.specs.Adding.{adding_all}
use Rattle.domain.specs.RelationsInCode.{relation_of}
use Rattle.domain.specs.FactInCode.{fact_in_code, all_parts}
use Rattle.domain.proofs.sum_fact.SumFact.keep_for_all_parts.Given as goal

abbrev pub invariant-loop-relation : goal.invariant-loop-relation
invariant-loop-relation g l =
    (f : Fact) → words l.fn.place ≡ f.set (location_of l.name) →
    (h : Fact) × (words l.place ≡ h.set (location_of l.name))
    × (adding_all OfSums (all_parts (image_of l.image) (fact_in_code l.self) (map relation_of (drop l.relation-index l.relations))) h ≡ adding_all OfSums (all_parts (image_of l.image) (fact_in_code l.self) (map relation_of l.relations)) f)
