use Rattle.std.proofs.Common.{ap, sym, ◌∙◌}
use Rattle.wordset.specs.Words.{Words, sums}
use Rattle.wordset.specs.Lanes.{words}
use Rattle.domain.specs.Adding.{times}
use Rattle.domain.specs.InCode.{sum_of}
use Rattle.domain.specs.FactInCode.{fact_in_code}
use Rattle.transfer.proofs.RowsLemmas.{moved_unknown, moved_known}
use Rattle.transfer.proofs.stores.add_moved.Goals as goal

pub returns-then-not-has_behind-clause-fact : goal.returns-then-not-has_behind-clause-fact
returns-then-not-has_behind-clause-fact g c =
    moved_unknown c.args.cell (words c.args.by.now) (sum_of c.args.sum.now) (words c.args.set.now) (words c.sums-found.result.0) (fact_in_code c.args.after.now) (fact_in_code c.add.new.self) c.only.result
    (c.in-None.is) c.only.ensures (sym c.has_behind.ensures ∙ c.if-not-has_behind.true)
    (c.sums-found.ensures.words ∙ ap (λ (s : Words). sums (words c.args.set.now) s) (c.times.ensures ∙ ap (λ n. times n (words c.args.by.now)) c.coefficient_of-c.ensures)) c.add.ensures.fact

pub returns-in-Some-clause-fact : goal.returns-in-Some-clause-fact
returns-in-Some-clause-fact g c =
    moved_known c.args.cell (words c.args.by.now) (sum_of c.args.sum.now) (sum_of c.counted.result) (words c.args.set.now) (words c.sums-found.result.0) (fact_in_code c.args.after.now) (fact_in_code c.add-in-Some.new.self) c.only.result c.in-Some.word
    (c.in-Some.is) c.only.ensures c.counted.ensures
    (c.sums-found.ensures.words ∙ ap (λ (s : Words). sums (words c.args.set.now) s) (c.times.ensures ∙ ap (λ n. times n (words c.args.by.now)) c.coefficient_of-c.ensures)) c.add-in-Some.ensures.fact
