use Rattle.std.proofs.Common.{sym, ◌∙◌, subst}
use Rattle.wordset.specs.Words.{Words, IsWithin, one}
use Rattle.wordset.specs.Lanes.{words}
use Rattle.wordset.proofs.WordSet.only.Goals as goal
use Rattle.wordset.proofs.Firsts.{only_alone, only_beside, only_nothing}
use Rattle.wordset.proofs.Tests.{true_false}

pub returns-in_default : goal.returns-in_default
returns-in_default c = only_nothing (words c.args.self.now) c.in_default.ensures

pub returns-then-is_subset : goal.returns-then-is_subset
returns-then-is_subset c =
    let within : IsWithin (words c.args.self.now) (one c.in-Some.word) = rw c.one.ensures at (c.is_subset.ensures.0 c.if-is_subset.true) in
    only_alone (words c.args.self.now) c.in-Some.word c.in-Some.ensures within

pub returns : goal.returns
returns c =
    only_beside (words c.args.self.now) c.in-Some.word c.in-Some.ensures
    (λ within. true_false (sym (c.is_subset.ensures.1 (subst (λ (s : Words). IsWithin (words c.args.self.now) s) (sym c.one.ensures) within)) ∙ c.if-is_subset.false))
