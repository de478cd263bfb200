use Rattle.std.proofs.Common.{◌≡◌, ◌+◌, ◌++◌, ◌∷◌, [], Some, take, length, refl, sym, ap, ◌∙◌}
use Rattle.std.specs.Prelude.{slice_get}
use Rattle.std.proofs.lemmas.List.{take_more}
use Rattle.std.proofs.lemmas.Option.{slice_get_read}
use Rattle.peripherals.specs.declared.Event.{Event}
use Rattle.peripherals.specs.World.{view}
use Rattle.declaration.specs.DeclarationInCode.{meaning}
use Rattle.policy.proofs.RunLemmas.{led_more, refused_at}
use Rattle.policy.proofs.runs.happen_all.Goals as goal

pub returns-in-Err-clause-only_output : goal.returns-in-Err-clause-only_output
returns-in-Err-clause-only_output g c =
    let is : slice_get c.args.events.now c.loop-index.index ≡ Some c.index-events-index.result = slice_get_read c.args.events.now (length c.args.events.now) c.loop-index.index c.index-events-index.result refl c.loop-index-test.true c.index-events-index.is in
    refused_at (meaning c.args.declaration.now) c.args.events.now (view c.args.world.now) c.loop-index.index c.index-events-index.result (view c.loop-index.world) is c.loop-index.invariant.1 c.in-Err.ensures.only_output

pub loop-index-preserved : goal.loop-index-preserved
loop-index-preserved g c =
    let more : take (c.loop-index.index + 1) c.args.events.now ≡ take c.loop-index.index c.args.events.now ++ c.index-events-index.result ∷ [] =
    take_more c.args.events.now c.loop-index.index c.index-events-index.result c.loop-index-test.true ∙ ap (λ (e : Event). take c.loop-index.index c.args.events.now ++ e ∷ []) (sym c.index-events-index.is) in (
      c.happen.ensures.profile,
      led_more (meaning c.args.declaration.now) c.args.events.now (view c.args.world.now) c.loop-index.index c.index-events-index.result (view c.loop-index.world) (view c.happen.new.world) more c.loop-index.invariant.1 c.in-Ok.ensures.happens,
    )
