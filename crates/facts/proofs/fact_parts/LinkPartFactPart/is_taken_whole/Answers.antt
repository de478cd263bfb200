use Rattle.std.proofs.Common.{sym, ◌∙◌}
use Rattle.domain.specs.FactInCode.{fact_in_code}
use Rattle.facts.specs.PlaceInCode.{place_in_code}
use Rattle.facts.specs.PartInCode.{part_in_code}
use Rattle.facts.proofs.SplitLemmas.{void_whole, some_whole}
use Rattle.facts.proofs.fact_parts.LinkPartFactPart.is_taken_whole.Goals as goal

pub returns-then-is_void-clause-taken : goal.returns-then-is_void-clause-taken
returns-then-is_void-clause-taken g c =
    void_whole (place_in_code c.args.place.now) (part_in_code c.args.self.now) (fact_in_code c.narrow.new.self) (g.F.FactSource.facts c.args.among.now) c.has_facts.result
    c.narrow.ensures.fact (sym c.is_void.ensures ∙ c.if-is_void.true) c.has_facts.ensures

pub returns-clause-taken : goal.returns-clause-taken
returns-clause-taken g c =
    some_whole (place_in_code c.args.place.now) (part_in_code c.args.self.now) (fact_in_code c.narrow.new.self) (g.F.FactSource.facts c.args.among.now) c.entails_one.result
    c.narrow.ensures.fact (sym c.is_void.ensures ∙ c.if-is_void.false) c.entails_one.ensures
