use Rattle.std.proofs.Common.{◌≡◌, sym, ◌∙◌}
use Rattle.domain.proofs.SetLemmas.{once}
use Rattle.domain.proofs.sets.times.Goals as goal

pub returns-then-index-eq1 : goal.returns-then-index-eq1
returns-then-index-eq1 c =
    let is : c.args.c ≡ 1 = sym c.index.ensures.same ∙ c.if-index-eq1.true in
    rw is (once c.args.set.now)
