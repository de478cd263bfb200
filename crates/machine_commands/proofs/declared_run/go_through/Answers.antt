use Rattle.std.proofs.Common.{rules, ◌≤◌, ◌<◌, ◌∙◌, length, arith}
use Rattle.peripherals.specs.World.{view}
use Rattle.declaration.specs.DeclarationInCode.{meaning}
use Rattle.machine_commands.proofs.DeclaredLemmas.{gone_all, gone_more}
use Rattle.machine_commands.proofs.declared_run.go_through.Goals as goal

pub loop-index-preserved : goal.loop-index-preserved
loop-index-preserved g c =
    let inv = c.loop-index.invariant in
    let events = c.args.events.now in
    let within : c.loop-index.index < length events = search rules in
    record {
      gone = gone_more (meaning c.args.declaration.now) events (view c.args.world.now) c.loop-index.index c.loop-index.trace.text.items c.go.new.trace.text.items c.loop-index.steps c.in_ok-steps.field-0 c.index-events-index.result (view c.loop-index.world) (view c.go.new.world)
          inv.gone within c.index-events-index.is c.in_ok-steps.ensures.happens c.in_ok-steps.ensures.line c.in_ok-steps.ensures.counts;
      profile = c.go.ensures.profile ∙ inv.profile;
      few = let was = inv.few in let more = c.in_ok-steps.ensures.few in omega (arith, was, more);
      room = c.in_ok-steps.ensures.room;
    }

pub returns : goal.returns
returns g c =
    let past : length c.args.events.now ≤ c.loop-index.index = search rules in
    record { goes = gone_all (meaning c.args.declaration.now) c.args.events.now (view c.args.world.now) c.loop-index.index c.loop-index.trace.text.items c.loop-index.steps (view c.loop-index.world) c.loop-index.invariant.gone past }
