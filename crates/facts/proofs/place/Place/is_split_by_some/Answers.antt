use Rattle.std.proofs.Common.{◌∙◌, refl, subst}
use Rattle.domain.specs.Locations.{Cell}
use Rattle.domain.specs.Facts.{Fact}
use Rattle.facts.specs.PlaceInCode.{place_in_code}
use Rattle.facts.specs.Landing.{IsSplitBy}
use Rattle.transfer.proofs.EntailLemmas.{not_both}
use Rattle.wordset.proofs.IterLemmas.{none_yet, one_more, all_pass}
use Rattle.facts.proofs.place.Place.is_split_by_some.Goals as goal

pub loop-cell-init : goal.loop-cell-init
loop-cell-init g c = (none_yet c.iter-cell-items.ensures c.into_iter-cell-iterator.ensures.into_iter_gives, refl)

pub loop-cell-preserved : goal.loop-cell-preserved
loop-cell-preserved g c = (
  one_more c.loop-cell.invariant.0 c.in-Some.ensures.steps
      (subst (λ (f : Fact). IsSplitBy (place_in_code c.args.self.now) (Cell c.in-Some.cell) f (g.F.FactSource.facts c.args.among.now) → ⊥) c.loop-cell.invariant.1 (not_both _ c.if-is_split_by.false c.is_split_by.ensures.split.1)),
  c.is_split_by.ensures.kept ∙ c.loop-cell.invariant.1,
)

pub returns-then-is_split_by-clause-split : goal.returns-then-is_split_by-clause-split
returns-then-is_split_by-clause-split g c = λ t. (
  Cell c.in-Some.cell,
  subst (λ (f : Fact). IsSplitBy (place_in_code c.args.self.now) (Cell c.in-Some.cell) f (g.F.FactSource.facts c.args.among.now)) c.loop-cell.invariant.1 (c.is_split_by.ensures.split.0 c.if-is_split_by.true),
)

pub returns-clause-left : goal.returns-clause-left
returns-clause-left g c = λ e x lt has. all_pass c.loop-cell.invariant.0 c.in-None.ensures.steps x lt has
