use Rattle.std.proofs.Common.{◌∙◌, sym}
use Rattle.wordset.specs.Lanes.{words}
use Rattle.wordset.proofs.SumLemmas.{sums_swap, sums_one}
use Rattle.wordset.proofs.WordSet.all_sums.Goals as goal

pub returns-in-Some : goal.returns-in-Some
returns-in-Some c = c.shift.ensures ∙ sums_one (words c.args.self.now) (words c.args.other.now) c.in-Some.word (sym c.only.ensures ∙ c.in-Some.is)

pub returns-in-Some-only : goal.returns-in-Some-only
returns-in-Some-only c = c.shift-in-Some-only.ensures
    ∙ sums_one (words c.args.other.now) (words c.args.self.now) c.in-Some-only.word (sym c.only-2.ensures ∙ c.in-Some-only.is)
    ∙ sums_swap (words c.args.other.now) (words c.args.self.now)

pub returns-else-has_fewer_ranges : goal.returns-else-has_fewer_ranges
returns-else-has_fewer_ranges c = c.sums_by_range-else-has_fewer_ranges.ensures ∙ sums_swap (words c.args.other.now) (words c.args.self.now)
