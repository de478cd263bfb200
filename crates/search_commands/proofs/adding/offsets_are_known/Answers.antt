use Rattle.std.proofs.Common.{◌≡◌, true, arith, refl}
use Rattle.std.specs.Prelude.{◌||◌}
use Rattle.declaration.specs.DeclarationInCode.{meaning}
use Rattle.analyser.proofs.DraftLemmas.{one_more}
use Rattle.search_commands.proofs.AddingLemmas.{fails_with}
use Rattle.search_commands.proofs.adding.offsets_are_known.Goals as goal

pub loop-index-preserved : goal.loop-index-preserved
loop-index-preserved g c =
    one_more
    (λ o. (meaning c.args.more.now).offset c.args.entry o ≡ true → (meaning c.args.given.now).offset c.args.entry o || (meaning c.args.proposed.now).offset c.args.entry o ≡ true)
    c.loop-index.index c.from_index-offset.result c.loop-index.invariant c.from_index-offset.ensures
    (rw (c.has_offset.ensures, c.has_offset-in-loop-index.ensures, c.has_offset-in-loop-index-2.ensures) at (c.is_known.ensures.0 c.if-not-is_known.false))

pub returns-then-not-is_known : goal.returns-then-not-is_known
returns-then-not-is_known g c =
    fails_with _ c.if-not-is_known.true c.is_known.ensures.1
    (λ each. rw (c.has_offset.ensures, c.has_offset-in-loop-index.ensures, c.has_offset-in-loop-index-2.ensures) (each c.from_index-offset.result (omega (arith, c.loop-index-test.true, c.from_index-offset.ensures))))

pub returns : goal.returns
returns g c = (λ q o low. c.loop-index.invariant o (omega (arith, low, c.loop-index-test.false)), λ each. refl)
