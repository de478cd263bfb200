use Rattle.std.proofs.Common.{◌≡◌, ◌==◌, List, take, subst}
use Rattle.std.specs.List.{list_any}
use Rattle.std.proofs.lemmas.List.{take_all}
use Rattle.wordset.specs.Lanes.{words}
use Rattle.declaration.specs.declared.ReturnAssertion.{ReturnAssertion}
use Rattle.declaration.proofs.RuleLemmas.{cell_more, none_yet}
use Rattle.declaration.proofs.drafts.returning_entries.Goals as goal

pub loop-returning-init : goal.loop-returning-init
loop-returning-init c = none_yet (λ x a. x.entry == a) (words c.empty-entries.result) c.args.returns.now c.empty-entries.ensures

pub loop-returning-preserved : goal.loop-returning-preserved
loop-returning-preserved c =
    cell_more (λ x. x.entry) (words c.loop-returning.entries) (words c.insert.new.self) c.args.returns.now c.loop-returning.returning-index c.returning-item.result
    c.loop-returning-test.true c.returning-item.is c.loop-returning.invariant c.insert.ensures

pub returns : goal.returns
returns c =
    let all : take c.loop-returning.returning-index c.args.returns.now ≡ c.args.returns.now = take_all c.loop-returning.returning-index c.args.returns.now c.loop-returning-test.false in
    subst (λ (xs : List ReturnAssertion). words c.loop-returning.entries ≡ (λ a. list_any (λ x. x.entry == a) xs)) all c.loop-returning.invariant
