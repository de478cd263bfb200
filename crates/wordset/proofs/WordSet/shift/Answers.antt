use Rattle.std.proofs.Common.{◌≡◌, ◌∙◌, ap, sym, arith}
use Rattle.wordset.specs.Words.{minus}
use Rattle.wordset.specs.Lanes.{words}
use Rattle.wordset.proofs.SetLemmas.{words_that}
use Rattle.wordset.proofs.WordSet.shift.Goals as goal

pub returns-then-index-eq0 : goal.returns-then-index-eq0
returns-then-index-eq0 c = words_that c.args.self.now _ (λ v h.
    let none : c.args.k ≡ 0 = sym c.index.ensures.same ∙ c.if-index-eq0.true in
    let there : v ≡ minus v c.args.k = omega arith in
    ap (words c.args.self.now) there)
