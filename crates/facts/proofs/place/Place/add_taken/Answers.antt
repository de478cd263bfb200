use Rattle.std.proofs.Common.{◌∙◌, ap, subst}
use Rattle.wordset.specs.Words.{Words, meet, IsWithin}
use Rattle.wordset.specs.Lanes.{words}
use Rattle.std.specs.Prelude.{◌||◌}
use Rattle.domain.specs.LocationsInCode.{location_of}
use Rattle.domain.specs.FactInCode.{fact_in_code}
use Rattle.facts.specs.PlaceInCode.{place_in_code}
use Rattle.transfer.proofs.EntailLemmas.{not_both}
use Rattle.facts.proofs.SplitLemmas.{taken_before, taken_now, not_taken}
use Rattle.facts.proofs.place.Place.add_taken.Goals as goal

pub returns-then-is_subset-clause-taken : goal.returns-then-is_subset-clause-taken
returns-then-is_subset-clause-taken g c =
    taken_before (place_in_code c.args.self.now) (location_of c.args.name.now) (g.P.FactPart.part c.args.part.now) (fact_in_code c.args.other.now) (words c.args.taken.now)
    (subst (λ (s : Words). IsWithin s (words c.args.taken.now))
    (c.meet.ensures ∙ ap (λ (s : Words). meet s (words c.put_set_of-2.new.place)) c.put_set_of.ensures ∙ ap (λ (s : Words). meet ((g.P.FactPart.part c.args.part.now).set (location_of c.args.name.now)) s) c.put_set_of-2.ensures)
    (c.is_subset.ensures.0 c.if-is_subset.true))

pub returns-then-is_taken-clause-taken : goal.returns-then-is_taken-clause-taken
returns-then-is_taken-clause-taken g c =
    taken_now (place_in_code c.args.self.now) (location_of c.args.name.now) (g.P.FactPart.part c.args.part.now) (fact_in_code c.args.other.now) (words c.args.taken.now) (words c.union.result)
    (c.is_taken.ensures.taken.0 c.if-is_taken.true) (λ v. ap (λ (s : Words). s v) c.union.ensures ∙ ap (λ (s : Words). words c.args.taken.now v || s v) c.put_set_of-2.ensures)

pub returns-else-is_taken-clause-taken : goal.returns-else-is_taken-clause-taken
returns-else-is_taken-clause-taken g c =
    not_taken (place_in_code c.args.self.now) (location_of c.args.name.now) (g.P.FactPart.part c.args.part.now) (fact_in_code c.args.other.now) (words c.args.taken.now)
    (not_both _ c.if-is_taken.false c.is_taken.ensures.taken.1)
