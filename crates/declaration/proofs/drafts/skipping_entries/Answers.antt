use Rattle.std.proofs.Common.{◌≡◌, ◌==◌, List, take, subst}
use Rattle.std.specs.List.{list_any}
use Rattle.std.proofs.lemmas.List.{take_all}
use Rattle.wordset.specs.Lanes.{words}
use Rattle.declaration.specs.declared.FurtherOffsets.{FurtherOffsets as KeptFurtherOffsets}
use Rattle.declaration.proofs.RuleLemmas.{cell_more, none_yet}
use Rattle.declaration.proofs.drafts.skipping_entries.Goals as goal

pub loop-skip-init : goal.loop-skip-init
loop-skip-init c = none_yet (λ x a. x.entry == a) (words c.empty-entries.result) c.args.skips.now c.empty-entries.ensures

pub loop-skip-preserved : goal.loop-skip-preserved
loop-skip-preserved c =
    cell_more (λ x. x.entry) (words c.loop-skip.entries) (words c.insert.new.self) c.args.skips.now c.loop-skip.skip-index c.skip-item.result
    c.loop-skip-test.true c.skip-item.is c.loop-skip.invariant c.insert.ensures

pub returns : goal.returns
returns c =
    let all : take c.loop-skip.skip-index c.args.skips.now ≡ c.args.skips.now = take_all c.loop-skip.skip-index c.args.skips.now c.loop-skip-test.false in
    subst (λ (xs : List KeptFurtherOffsets). words c.loop-skip.entries ≡ (λ a. list_any (λ x. x.entry == a) xs)) all c.loop-skip.invariant
