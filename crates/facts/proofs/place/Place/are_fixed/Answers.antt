use Rattle.std.proofs.Common.{◌∙◌, sym}
use Rattle.wordset.specs.Lanes.{words}
use Rattle.wordset.proofs.IterLemmas.{none_yet, given_word, one_more, all_pass}
use Rattle.facts.specs.PlaceInCode.{place_in_code}
use Rattle.facts.proofs.OperandLemmas.{one_moves, none_moves}
use Rattle.facts.proofs.place.Place.are_fixed.Goals as goal

pub returns-then-not-is_fixed : goal.returns-then-not-is_fixed
returns-then-not-is_fixed g c = one_moves (place_in_code c.args.self.now).declaration (words c.args.cells.now) c.in-Some.ensures.steps.0.small (given_word c.loop-cell.invariant c.in-Some.ensures.steps) (sym c.is_fixed.ensures ∙ c.if-not-is_fixed.true)

pub loop-cell-init : goal.loop-cell-init
loop-cell-init g c = none_yet c.iter-cell-items.ensures c.into_iter-cell-iterator.ensures.into_iter_gives

pub loop-cell-preserved : goal.loop-cell-preserved
loop-cell-preserved g c = one_more c.loop-cell.invariant c.in-Some.ensures.steps (sym c.is_fixed.ensures ∙ c.if-not-is_fixed.false)

pub returns : goal.returns
returns g c = none_moves (place_in_code c.args.self.now).declaration (words c.args.cells.now) (all_pass c.loop-cell.invariant c.in-None.ensures.steps)
