use Rattle.std.proofs.Common.{◌≡◌, List, take, subst}
use Rattle.std.specs.List.{list_any}
use Rattle.std.proofs.lemmas.List.{take_all}
use Rattle.wordset.specs.Lanes.{words}
use Rattle.declaration.specs.declared.PlaceAssertion.{PlaceAssertion}
use Rattle.declaration.proofs.RuleLemmas.{none_yet, set_more}
use Rattle.declaration.proofs.drafts.held_places.Goals as goal

pub loop-holding-init : goal.loop-holding-init
loop-holding-init c = none_yet (λ h a. words h.places a) (words c.empty-places.result) c.args.holds.now c.empty-places.ensures

pub loop-holding-preserved : goal.loop-holding-preserved
loop-holding-preserved c =
    set_more (λ h. words h.places) (words c.loop-holding.places) (words c.union-places.result) c.args.holds.now c.loop-holding.holding-index c.holding-item.result
    c.loop-holding-test.true c.holding-item.is c.loop-holding.invariant c.union-places.ensures

pub returns : goal.returns
returns c =
    let all : take c.loop-holding.holding-index c.args.holds.now ≡ c.args.holds.now = take_all c.loop-holding.holding-index c.args.holds.now c.loop-holding-test.false in
    subst (λ (xs : List PlaceAssertion). words c.loop-holding.places ≡ (λ a. list_any (λ h. words h.places a) xs)) all c.loop-holding.invariant
