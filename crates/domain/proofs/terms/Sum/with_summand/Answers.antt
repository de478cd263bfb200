use Rattle.std.proofs.Common.{◌≤◌, ◌<◌, length, sym, ◌∙◌, arith}
use Rattle.domain.specs.Locations.{Ac}
use Rattle.domain.specs.Terms.{Holding, with_summand}
use Rattle.domain.specs.InCode.{sum_of, summand_of, term_of}
use Rattle.domain.proofs.TermLemmas.{put_before, put_last}
use Rattle.domain.proofs.terms.Sum.with_summand.Goals as goal

pub returns-then-is_before-clause-sum : goal.returns-then-is_before-clause-sum
returns-then-is_before-clause-sum c =
    let small : c.args.summand.now.coefficient < 4096 = omega (arith, c.index-index.ensures.same, c.index-index.ensures.small) in
    let inside : c.loop-at.at < length (sum_of c.args.self.now) = omega arith in
    c.push_from-then-is_before.ensures ∙ put_before c.args.summand.now.coefficient (term_of c.args.summand.now.term) (sum_of c.args.self.now) (sum_of c.loop-at.sum) (sum_of c.push_unless_zero-then-is_before.new.self)
    (with_summand c.args.summand.now.coefficient (term_of c.args.summand.now.term) (sum_of c.args.self.now)) c.loop-at.at (summand_of c.get-other.result) (record { coefficient = 0; term = Holding Ac })
    inside c.get-other.ensures (sym c.is_same.ensures ∙ c.if-is_same.false) (sym c.is_before.ensures ∙ c.if-is_before.true) small c.push_unless_zero-then-is_before.ensures c.loop-at.invariant.0

pub returns-clause-sum : goal.returns-clause-sum
returns-clause-sum c =
    let small : c.args.summand.now.coefficient < 4096 = omega (arith, c.index-index.ensures.same, c.index-index.ensures.small) in
    let past : length (sum_of c.args.self.now) ≤ c.loop-at.at = omega arith in
    put_last c.args.summand.now.coefficient (term_of c.args.summand.now.term) (sum_of c.args.self.now) (sum_of c.loop-at.sum) (sum_of c.push_unless_zero-2.new.self)
    (with_summand c.args.summand.now.coefficient (term_of c.args.summand.now.term) (sum_of c.args.self.now)) c.loop-at.at past small c.push_unless_zero-2.ensures c.loop-at.invariant.0
