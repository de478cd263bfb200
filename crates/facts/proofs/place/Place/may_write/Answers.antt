use Rattle.std.proofs.Common.{◌∙◌, ap, refl}
use Rattle.std.specs.Prelude.{◌||◌}
use Rattle.wordset.specs.Words.{Words}
use Rattle.wordset.specs.Lanes.{words}
use Rattle.facts.proofs.AskedLemmas.{listed_iff}
use Rattle.facts.proofs.place.Place.may_write.Goals as goal

pub returns-in-None : goal.returns-in-None
returns-in-None g c = rw c.in-None.is (λ q a lt h. tt, λ p. refl)

pub returns-in-Some : goal.returns-in-Some
returns-in-Some g c =
    rw c.in-Some.is (listed_iff _ _ (words c.union.result) (words c.args.listed.now) c.in-Some.entry
    (λ a. ap (λ (s : Words). s a) c.union.ensures ∙ ap (λ (s : Words). words c.args.listed.now a || s a) c.one.ensures) c.is_subset.ensures)
