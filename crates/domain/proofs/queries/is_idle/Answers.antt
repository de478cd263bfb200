use Rattle.std.proofs.Common.{◌∙◌, sym, ap, arith}
use Rattle.std.proofs.lemmas.Bool.{false≢true, not-true}
use Rattle.domain.specs.Locations.{same}
use Rattle.domain.specs.LocationsInCode.{location_of}
use Rattle.domain.specs.Terms.{Summand, name_of_term}
use Rattle.domain.specs.InCode.{sum_of}
use Rattle.domain.proofs.NameAskedLemmas.{part_of_other}
use Rattle.domain.proofs.queries.is_idle.Goals as goal

pub returns-then-len-ne1 : goal.returns-then-len-ne1
returns-then-len-ne1 c = λ image set f e. absurd (false≢true e)

pub returns : goal.returns
returns c = λ image set f e. part_of_other image set f (location_of c.args.name.now) (sum_of c.args.part.now) (omega (arith, c.len.ensures.count, c.if-len-ne1.false))
    (sym (ap (λ (s : Summand). same (location_of c.args.name.now) (name_of_term s.term)) c.get.ensures) ∙ ap (same (location_of c.args.name.now)) (sym c.name.ensures) ∙ sym c.is_same_location.ensures ∙ not-true _ e)
