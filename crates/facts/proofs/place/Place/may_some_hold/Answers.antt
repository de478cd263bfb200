use Rattle.std.proofs.Common.{◌∙◌, sym}
use Rattle.wordset.specs.Lanes.{words}
use Rattle.wordset.proofs.IterLemmas.{none_yet, given_word, one_more, all_pass}
use Rattle.domain.specs.Locations.{Cell}
use Rattle.domain.specs.Narrowing.{words_known}
use Rattle.domain.specs.FactInCode.{fact_in_code}
use Rattle.transfer.specs.Shaped.{has_last_or_other}
use Rattle.facts.specs.PlaceInCode.{place_in_code}
use Rattle.facts.proofs.EachLemmas.{some_has, none_has}
use Rattle.facts.proofs.place.Place.may_some_hold.Goals as goal

pub returns-then-may_hold : goal.returns-then-may_hold
returns-then-may_hold g c = some_has (words c.args.cells.now) (λ y. has_last_or_other c.args.last (words_known (place_in_code c.args.self.now) (fact_in_code c.args.fact.now) (Cell y))) c.in-Some.ensures.steps.0.small (given_word c.loop-cell.invariant c.in-Some.ensures.steps) (sym c.may_hold.ensures ∙ c.if-may_hold.true)

pub loop-cell-init : goal.loop-cell-init
loop-cell-init g c = none_yet c.iter-cell-items.ensures c.into_iter-cell-iterator.ensures.into_iter_gives

pub loop-cell-preserved : goal.loop-cell-preserved
loop-cell-preserved g c = one_more c.loop-cell.invariant c.in-Some.ensures.steps (sym c.may_hold.ensures ∙ c.if-may_hold.false)

pub returns : goal.returns
returns g c = none_has (words c.args.cells.now) (λ y. has_last_or_other c.args.last (words_known (place_in_code c.args.self.now) (fact_in_code c.args.fact.now) (Cell y))) (all_pass c.loop-cell.invariant c.in-None.ensures.steps)
