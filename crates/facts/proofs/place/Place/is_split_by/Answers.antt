use Rattle.std.proofs.Common.{◌≡◌, ◌∙◌, ◌<◌, ℕ, true, ◌⊎◌, ap, refl, subst, arith}
use Rattle.std.specs.Prelude.{IsTrue, ◌↔◌}
use Rattle.wordset.specs.Lanes.{words}
use Rattle.wordset.specs.Words.{Words, IsWithin}
use Rattle.domain.specs.LocationsInCode.{location_of}
use Rattle.facts.specs.PlaceInCode.{place_in_code}
use Rattle.domain.specs.FactInCode.{fact_in_code}
use Rattle.domain.specs.Facts.{Fact}
use Rattle.facts.specs.Landing.{TakesAt}
use Rattle.facts.proofs.SplitLemmas.{none_taken, one_taken, all_taken}
use Rattle.facts.proofs.place.Place.is_split_by.Goals as goal

pub loop-at-init : goal.loop-at-init
loop-at-init g c = (none_taken (place_in_code c.args.self.now) (location_of c.args.name.now) (g.P.FactPart.part c.args.part.now) _ (g.F.FactSource.facts c.args.among.now) (λ v. ap (λ (s : Words). s v) c.empty-taken.ensures), refl)

pub loop-at-preserved : goal.loop-at-preserved
loop-at-preserved g c = (
  one_taken (place_in_code c.args.self.now) (location_of c.args.name.now) (g.P.FactPart.part c.args.part.now) (words c.loop-at.taken) (words c.add_taken.new.taken) (g.F.FactSource.facts c.args.among.now) c.loop-at.at (fact_in_code c.put.new.fact) (omega (arith, c.loop-at-test.true, c.len-at-end.ensures)) c.put.ensures
      (subst (λ (f : Fact). (v : ℕ) → v < 4096 → f.set (location_of c.args.name.now) v ≡ true → (words c.add_taken.new.taken v ≡ true) ↔ ((words c.loop-at.taken v ≡ true) ⊎ TakesAt (place_in_code c.args.self.now) (location_of c.args.name.now) v f (fact_in_code c.put.new.fact)))
      c.loop-at.invariant.1 c.add_taken.ensures.taken) c.loop-at.invariant.0,
  c.add_taken.ensures.kept ∙ c.loop-at.invariant.1,
)

pub returns-clause-split : goal.returns-clause-split
returns-clause-split g c = all_taken (place_in_code c.args.self.now) (location_of c.args.name.now) (g.P.FactPart.part c.args.part.now) (words c.loop-at.taken) (g.F.FactSource.facts c.args.among.now) c.loop-at.at c.is_subset.result (omega (arith, c.loop-at-test.false, c.len-at-end.ensures)) c.loop-at.invariant.0
    (subst (λ (s : Words). IsTrue c.is_subset.result ↔ IsWithin s (words c.loop-at.taken)) (c.put_set_of.ensures ∙ ap (λ (f : Fact). f.set (location_of c.args.name.now)) c.loop-at.invariant.1) c.is_subset.ensures)
