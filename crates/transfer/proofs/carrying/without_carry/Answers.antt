use Rattle.std.proofs.Common.{sym, ap, ◌∙◌}
use Rattle.wordset.specs.Words.{Words}
use Rattle.wordset.specs.Lanes.{words}
use Rattle.transfer.specs.Additions.{sums_carrying}
use Rattle.transfer.proofs.CarryingLemmas.{sums_turned}
use Rattle.transfer.proofs.carrying.without_carry.Goals as goal

pub returns-then-is_all-2 : goal.returns-then-is_all-2
returns-then-is_all-2 c =
    c.from_least-then-is_all-2.ensures ∙ ap (λ (s : Words). sums_carrying 0 (words c.args.b.now) s) (sym (c.is_all-2.ensures.0 c.if-is_all-2.true))
    ∙ sums_turned 0 (words c.args.b.now) (words c.args.a.now)

pub returns-else-count : goal.returns-else-count
returns-else-count c = c.each_without_carry-else-count.ensures ∙ sums_turned 0 (words c.args.b.now) (words c.args.a.now)
