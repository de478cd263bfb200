use Rattle.wordset.proofs.bits.lane_of_bit.Goals as goal
use Rattle.wordset.proofs.Parts.{low_pattern, high_set, high_clear}

pub returns-then-at-lt6 : goal.returns-then-at-lt6
returns-then-at-lt6 c = λ j h. low_pattern c.args.at c.args.i j c.if-at-lt6.true h

pub returns-then-i-at-eq1 : goal.returns-then-i-at-eq1
returns-then-i-at-eq1 c = λ j h. high_set c.args.at c.args.i j c.if-at-lt6.false h c.if-i-at-eq1.true

pub returns-else-i-at-eq1 : goal.returns-else-i-at-eq1
returns-else-i-at-eq1 c = λ j h. high_clear c.args.at c.args.i j c.if-at-lt6.false h c.if-i-at-eq1.false
