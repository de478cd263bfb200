use Rattle.std.proofs.Common.{◌+◌, ◌-◌, ◌∙◌, ap}
use Rattle.wordset.specs.Words.{IsFirstFrom, HasNoneFrom}
use Rattle.wordset.specs.Lanes.{words}
use Rattle.wordset.proofs.SetLemmas.{word_small}
use Rattle.wordset.proofs.RangingLemmas.{last_before, last_of_all}
use Rattle.wordset.proofs.ranges.Ranges.last_from.Goals as goal

pub returns-in-None : goal.returns-in-None
returns-in-None c =
    let none : HasNoneFrom (c.args.first + 1) (words c.args.self.now.others) = rw c.index.ensures.same at c.in-None.ensures in
    last_of_all (words c.args.self.now.set.now) (words c.args.self.now.others) c.args.first c.from_index.result c.args.self.now.apart c.requires (word_small c.args.self.now.set.now c.args.first c.requires) none c.from_index.ensures

pub returns-in-Some : goal.returns-in-Some
returns-in-Some c =
    let found : IsFirstFrom (c.args.first + 1) (words c.args.self.now.others) c.in-Some.end = rw c.index.ensures.same at c.in-Some.ensures in
    last_before (words c.args.self.now.set.now) (words c.args.self.now.others) c.args.first c.in-Some.end c.from_index-in-Some.result c.args.self.now.apart c.requires found
    (c.from_index-in-Some.ensures ∙ ap (λ n. n - 1) c.index-in-Some.ensures.same)
