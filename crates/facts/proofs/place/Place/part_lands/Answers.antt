use Rattle.std.proofs.Common.{◌∙◌, sym}
use Rattle.facts.specs.PlaceInCode.{place_in_code}
use Rattle.facts.proofs.SplitLemmas.{part_void, part_entails, part_split}
use Rattle.transfer.proofs.EntailLemmas.{not_both}
use Rattle.facts.proofs.place.Place.part_lands.Goals as goal

pub returns-then-is_none-clause-lands : goal.returns-then-is_none-clause-lands
returns-then-is_none-clause-lands g c = part_void (place_in_code c.args.self.now) (g.P.FactPart.part c.args.part.now) (g.F.FactSource.facts c.args.among.now) (sym c.is_none.ensures ∙ c.if-is_none.true)

pub returns-then-entails_one-clause-lands : goal.returns-then-entails_one-clause-lands
returns-then-entails_one-clause-lands g c = part_entails (place_in_code c.args.self.now) (g.P.FactPart.part c.args.part.now) (g.F.FactSource.facts c.args.among.now) (c.entails_one.ensures.0 c.if-entails_one.true)

pub returns-clause-lands : goal.returns-clause-lands
returns-clause-lands g c = part_split (place_in_code c.args.self.now) (g.P.FactPart.part c.args.part.now) (g.F.FactSource.facts c.args.among.now) c.is_split.result (sym c.is_none.ensures ∙ c.if-is_none.false) (not_both _ c.if-entails_one.false c.entails_one.ensures.1) c.is_split.ensures.split
