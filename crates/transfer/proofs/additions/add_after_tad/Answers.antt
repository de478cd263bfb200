use Rattle.std.proofs.Common.{sym, ap, ◌∙◌}
use Rattle.wordset.specs.Lanes.{words}
use Rattle.domain.specs.Facts.{Fact, OfSums}
use Rattle.domain.specs.Adding.{adding_all}
use Rattle.domain.specs.InCode.{sum_of}
use Rattle.domain.specs.FactInCode.{fact_in_code}
use Rattle.transfer.specs.Additions.{brought}
use Rattle.transfer.specs.Shaped.{term_if, told, moved_after_tad}
use Rattle.transfer.proofs.EachRelation.{adding_append}
use Rattle.transfer.proofs.additions.add_after_tad.Goals as goal

pub returns-clause-fact : goal.returns-clause-fact
returns-clause-fact g c =
    c.add_brought.ensures.fact
    ∙ ap (λ (h : Fact). adding_all OfSums (brought (words c.args.ac.now) (term_if c.args.term.now) (told (sum_of c.args.sum.now) (words c.args.set.now))) h) c.add_moved.ensures.fact
    ∙ sym (adding_append OfSums (moved_after_tad (words c.args.operand.now) (told (sum_of c.args.sum.now) (words c.args.set.now)))
    (brought (words c.args.ac.now) (term_if c.args.term.now) (told (sum_of c.args.sum.now) (words c.args.set.now))) (fact_in_code c.args.after.now))
