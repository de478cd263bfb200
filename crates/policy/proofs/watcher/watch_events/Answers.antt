use Rattle.std.proofs.Common.{◌≡◌, ◌+◌, ◌++◌, ◌∷◌, [], Some, take, length, refl, sym, ap, ◌∙◌}
use Rattle.std.specs.Prelude.{slice_get}
use Rattle.std.proofs.lemmas.List.{take_more}
use Rattle.std.proofs.lemmas.Option.{slice_get_read}
use Rattle.peripherals.specs.declared.Event.{Event}
use Rattle.peripherals.specs.World.{view}
use Rattle.declaration.specs.DeclarationInCode.{meaning}
use Rattle.policy.specs.OpenCalls.{open_calls}
use Rattle.policy.proofs.WatchLemmas.{taken_more, all_taken, stopped, grown}
use Rattle.policy.proofs.watcher.watch_events.Goals as goal

pub returns-in-Ok-Some-clause-tells : goal.returns-in-Ok-Some-clause-tells
returns-in-Ok-Some-clause-tells g c =
    let is : slice_get c.args.events.now c.loop-index.index ≡ Some c.index-events-index.result = slice_get_read c.args.events.now (length c.args.events.now) c.loop-index.index c.index-events-index.result refl c.loop-index-test.true c.index-events-index.is in
    let stops = rw c.in-Ok-Some.field-0-is at c.in-Ok-Some.ensures.watches in
    λ image keeps. stopped image (meaning c.args.declaration.now) c.args.events.now (view c.args.watcher.now.world) c.loop-index.index c.index-events-index.result (view c.loop-index.watcher.world) (open_calls c.loop-index.watcher.calls.items) c.in-Ok-Some.rule
    is c.loop-index.invariant.1 stops keeps

pub returns-in-Err-clause-only_growth : goal.returns-in-Err-clause-only_growth
returns-in-Err-clause-only_growth g c =
    let is : slice_get c.args.events.now c.loop-index.index ≡ Some c.index-events-index.result = slice_get_read c.args.events.now (length c.args.events.now) c.loop-index.index c.index-events-index.result refl c.loop-index-test.true c.index-events-index.is in
    λ image keeps. grown image (meaning c.args.declaration.now) c.args.events.now (view c.args.watcher.now.world) c.loop-index.index c.index-events-index.result (view c.loop-index.watcher.world) (open_calls c.loop-index.watcher.calls.items)
    is c.loop-index.invariant.1 c.in-Err.ensures.only_growth keeps

pub loop-index-preserved : goal.loop-index-preserved
loop-index-preserved g c =
    let is : slice_get c.args.events.now c.loop-index.index ≡ Some c.index-events-index.result = slice_get_read c.args.events.now (length c.args.events.now) c.loop-index.index c.index-events-index.result refl c.loop-index-test.true c.index-events-index.is in
    let more : take (c.loop-index.index + 1) c.args.events.now ≡ take c.loop-index.index c.args.events.now ++ c.index-events-index.result ∷ [] =
    take_more c.args.events.now c.loop-index.index c.index-events-index.result c.loop-index-test.true ∙ ap (λ (e : Event). take c.loop-index.index c.args.events.now ++ e ∷ []) (sym c.index-events-index.is) in
    let goes = rw c.in-Ok-None.field-0-is at c.in-Ok-None.ensures.watches in (
      c.in-Ok-None.ensures.profile,
      taken_more (meaning c.args.declaration.now) c.is_declared.ensures c.args.events.now (view c.args.watcher.now.world) c.loop-index.index c.index-events-index.result (view c.loop-index.watcher.world) (view c.next.new.self.world) (open_calls c.loop-index.watcher.calls.items) (open_calls c.next.new.self.calls.items)
          is more c.loop-index.invariant.1 goes,
    )

pub returns-clause-tells : goal.returns-clause-tells
returns-clause-tells g c =
    λ image keeps. all_taken image (meaning c.args.declaration.now) c.args.events.now (view c.args.watcher.now.world) c.loop-index.index (view c.loop-index.watcher.world) (open_calls c.loop-index.watcher.calls.items) c.loop-index-test.false c.loop-index.invariant.1 keeps
