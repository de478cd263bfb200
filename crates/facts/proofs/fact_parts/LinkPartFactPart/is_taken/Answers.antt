use Rattle.std.proofs.Common.{sym, ◌∙◌}
use Rattle.domain.specs.LocationsInCode.{location_of}
use Rattle.domain.specs.FactInCode.{fact_in_code}
use Rattle.facts.specs.PlaceInCode.{place_in_code}
use Rattle.facts.specs.PartInCode.{part_in_code}
use Rattle.facts.proofs.SplitLemmas.{takes_void, takes_entails}
use Rattle.facts.proofs.fact_parts.LinkPartFactPart.is_taken.Goals as goal

pub returns-then-is_void-clause-taken : goal.returns-then-is_void-clause-taken
returns-then-is_void-clause-taken g c =
    takes_void (place_in_code c.args.place.now) (location_of c.args.name.now) (part_in_code c.args.self.now) (fact_in_code c.args.other.now) (fact_in_code c.put_met.new.met)
    c.put_met.ensures (sym c.is_void.ensures ∙ c.if-is_void.true)

pub returns-clause-taken : goal.returns-clause-taken
returns-clause-taken g c =
    takes_entails (place_in_code c.args.place.now) (location_of c.args.name.now) (part_in_code c.args.self.now) (fact_in_code c.args.other.now) (fact_in_code c.put_met.new.met) c.entails.result
    c.put_met.ensures (sym c.is_void.ensures ∙ c.if-is_void.false) c.entails.ensures
