use Rattle.std.proofs.Common.{◌∙◌, sym, ap, refl}
use Rattle.wordset.specs.Lanes.{words}
use Rattle.peripherals.specs.Loading.{image_of}
use Rattle.domain.specs.Locations.{same}
use Rattle.domain.specs.LocationsInCode.{location_of}
use Rattle.domain.specs.InCode.{term_of}
use Rattle.domain.proofs.NameAskedLemmas.{told_here, term_of_other}
use Rattle.domain.proofs.queries.keep_for_term.Goals as goal

pub returns-then-not-is_same_location : goal.returns-then-not-is_same_location
returns-then-not-is_same_location c = λ f h. h ∙ term_of_other (image_of c.args.image.now) c.args.c (term_of c.args.term.now) (words c.args.set.now) f (location_of c.args.name.now)
    (ap (same (location_of c.args.name.now)) (sym c.name.ensures) ∙ sym c.is_same_location.ensures ∙ c.if-not-is_same_location.true)

pub returns-in-Holding : goal.returns-in-Holding
returns-in-Holding c = λ f h. rw c.in-Holding.is (told_here f (location_of c.args.name.now) _ c.args.place.now _ _
    (ap (same (location_of c.args.name.now)) (sym (c.name.ensures ∙ rw c.in-Holding.is refl)) ∙ sym c.is_same_location.ensures ∙ c.if-not-is_same_location.false) h c.keep_divided.ensures)

pub returns-in-Behind : goal.returns-in-Behind
returns-in-Behind c = λ f h. rw c.in-Behind.is (told_here f (location_of c.args.name.now) _ c.args.place.now _ _
    (ap (same (location_of c.args.name.now)) (sym (c.name.ensures ∙ rw c.in-Behind.is refl)) ∙ sym c.is_same_location.ensures ∙ c.if-not-is_same_location.false) h c.keep_pointing.ensures)
