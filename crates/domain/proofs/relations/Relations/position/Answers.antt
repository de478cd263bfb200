use Rattle.std.proofs.Common.{◌<◌, ◌≤◌, length, sym, ap, ◌∙◌, arith}
use Rattle.domain.specs.Terms.{Sum, same_sum}
use Rattle.domain.specs.InCode.{sum_of}
use Rattle.domain.specs.RelationsInCode.{relations_of}
use Rattle.domain.proofs.RelationLemmas.{found_at, passed_on, not_found}
use Rattle.domain.proofs.relations.Relations.position.Goals as goal

pub loop-at-preserved : goal.loop-at-preserved
loop-at-preserved g c =
    let inside : c.loop-at.at < length (relations_of c.args.self.now) = omega (arith, c.len-at-end.ensures.count, c.loop-at-test.true) in
    passed_on (sum_of c.args.sum.now) (relations_of c.args.self.now) c.loop-at.at inside
    (ap (λ (s : Sum). same_sum s (sum_of c.args.sum.now)) (sym c.sum_at.ensures) ∙ sym c.is_same.ensures ∙ c.if-is_same.false) c.loop-at.invariant

pub returns-then-is_same : goal.returns-then-is_same
returns-then-is_same g c =
    let inside : c.loop-at.at < length (relations_of c.args.self.now) = omega (arith, c.len-at-end.ensures.count, c.loop-at-test.true) in
    found_at (sum_of c.args.sum.now) (relations_of c.args.self.now) c.loop-at.at inside
    (ap (λ (s : Sum). same_sum s (sum_of c.args.sum.now)) (sym c.sum_at.ensures) ∙ sym c.is_same.ensures ∙ c.if-is_same.true) c.loop-at.invariant

pub returns : goal.returns
returns g c =
    let past : length (relations_of c.args.self.now) ≤ c.loop-at.at = omega (arith, c.len-at-end.ensures.count, c.loop-at-test.false) in
    not_found (sum_of c.args.sum.now) (relations_of c.args.self.now) c.loop-at.at past c.loop-at.invariant
