use Rattle.std.proofs.Common.{arith, refl}
use Rattle.declaration.specs.DeclarationInCode.{meaning}
use Rattle.analyser.proofs.DraftLemmas.{one_more}
use Rattle.search_commands.specs.Adding.{AddsToCell}
use Rattle.search_commands.proofs.AddingLemmas.{fails_with}
use Rattle.search_commands.proofs.adding.adds_only.Goals as goal

pub loop-index-preserved : goal.loop-index-preserved
loop-index-preserved g c =
    one_more (AddsToCell (meaning c.args.given.now) (meaning c.args.proposed.now) (meaning c.args.more.now)) c.loop-index.index c.from_index.result c.loop-index.invariant c.from_index.ensures
    (c.adds_to_cell.ensures.0 c.if-not-adds_to_cell.false)

pub returns-then-not-adds_to_cell : goal.returns-then-not-adds_to_cell
returns-then-not-adds_to_cell g c =
    fails_with _ c.if-not-adds_to_cell.true c.adds_to_cell.ensures.1 (λ each. each c.from_index.result (omega (arith, c.loop-index-test.true, c.from_index.ensures)))

pub returns : goal.returns
returns g c = (λ q a small. c.loop-index.invariant a (omega (arith, small, c.loop-index-test.false)), λ each. refl)
