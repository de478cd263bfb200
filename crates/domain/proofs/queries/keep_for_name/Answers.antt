use Rattle.std.proofs.Common.{◌∙◌, sym}
use Rattle.wordset.specs.Lanes.{words}
use Rattle.domain.specs.LocationsInCode.{location_of}
use Rattle.domain.proofs.NameAskedLemmas.{met_here, met_elsewhere}
use Rattle.domain.proofs.queries.keep_for_name.Goals as goal

pub returns-then-not-is_same_location : goal.returns-then-not-is_same_location
returns-then-not-is_same_location c = λ f h. rw c.in-Holding.is (h ∙ met_elsewhere f (location_of c.args.name.now) _ (words c.args.set.now) (sym c.is_same_location.ensures ∙ c.if-not-is_same_location.true))

pub returns-else-not-is_same_location : goal.returns-else-not-is_same_location
returns-else-not-is_same_location c = λ f h. rw c.in-Holding.is (met_here f (location_of c.args.name.now) _ (words c.args.set.now) (words c.args.place.now) _ (sym c.is_same_location.ensures ∙ c.if-not-is_same_location.false) h c.meet.ensures)

pub returns-in-Behind : goal.returns-in-Behind
returns-in-Behind c = λ f h. rw c.in-Behind.is h
