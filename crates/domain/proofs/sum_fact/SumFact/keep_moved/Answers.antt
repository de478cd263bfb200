use Rattle.std.proofs.Common.{◌∙◌, sym, ap}
use Rattle.wordset.specs.Words.{Words, meet, shifted}
use Rattle.wordset.specs.Lanes.{words}
use Rattle.domain.specs.LocationsInCode.{location_of}
use Rattle.domain.specs.FactInCode.{fact_in_code}
use Rattle.domain.proofs.NameAskedLemmas.{told_of_other}
use Rattle.domain.proofs.EquationLemmas.{moved_here}
use Rattle.domain.proofs.sum_fact.SumFact.keep_moved.Goals as goal

pub returns-then-not-is_same_location : goal.returns-then-not-is_same_location
returns-then-not-is_same_location g c = λ f set alike h. h ∙ told_of_other f (location_of c.args.name.now) (location_of c.args.one.now) set (sym c.is_same_location.ensures ∙ c.if-not-is_same_location.true)

pub returns : goal.returns
returns g c = λ f set alike h. moved_here f (location_of c.args.name.now) (location_of c.args.one.now) c.args.place.now set
    (shifted ((fact_in_code c.args.self.now).set (location_of c.args.other.now)) c.args.by) (words c.keep_shifted.new.self)
    (sym c.is_same_location.ensures ∙ c.if-not-is_same_location.false) alike h
    (c.keep_shifted.ensures ∙ ap (λ (s : Words). meet (words c.args.place.now) (shifted s c.args.by)) c.put_set_of.ensures)
