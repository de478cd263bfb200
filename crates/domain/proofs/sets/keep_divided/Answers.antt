use Rattle.std.proofs.Common.{◌≡◌, sym, ap, ◌∙◌}
use Rattle.wordset.specs.Words.{meet}
use Rattle.wordset.specs.Lanes.{words}
use Rattle.domain.proofs.SetLemmas.{divided_once, divided_negative}
use Rattle.domain.proofs.sets.keep_divided.Goals as goal

pub returns-then-index-eq1 : goal.returns-then-index-eq1
returns-then-index-eq1 c =
    let is : c.args.c ≡ 1 = sym c.index.ensures.same ∙ c.if-index-eq1.true in
    rw is (c.meet.ensures ∙ divided_once c.args.place.now (words c.args.set.now))

pub returns-then-index-eq4095 : goal.returns-then-index-eq4095
returns-then-index-eq4095 c =
    let is : c.args.c ≡ 4095 = sym c.index-2.ensures.same ∙ c.if-index-eq4095.true in
    rw is (c.meet-then-index-eq4095.ensures ∙ ap (meet (words c.args.place.now)) c.negatives.ensures ∙ divided_negative c.args.place.now (words c.args.set.now))
