use Rattle.std.proofs.Common.{◌≡◌, ◌+◌, ◌++◌, ◌∷◌, ◌∙◌, [], take, sym, ap, arith}
use Rattle.std.proofs.lemmas.List.{take_more}
use Rattle.peripherals.specs.declared.Event.{Event}
use Rattle.machine_commands.proofs.ContinuedLemmas.{presses_more, presses_all}
use Rattle.machine_commands.proofs.continuing.presses.Goals as goal

pub loop-index-preserved : goal.loop-index-preserved
loop-index-preserved c =
    let grows : take (c.loop-index.index + 1) c.args.events.now ≡ take c.loop-index.index c.args.events.now ++ c.index-events-index.result ∷ [] =
    take_more c.args.events.now c.loop-index.index c.index-events-index.result c.loop-index-test.true ∙ ap (λ (e : Event). take c.loop-index.index c.args.events.now ++ e ∷ []) (sym c.index-events-index.is) in
    record {
      counts = presses_more c.args.events.now c.loop-index.index c.loop-index.count c.press_of-count.result c.index-events-index.result grows c.loop-index.invariant.counts c.press_of-count.ensures.presses;
      few = omega (arith, c.loop-index.invariant.few, c.press_of-count.ensures.once);
    }

pub returns : goal.returns
returns c = presses_all c.args.events.now c.loop-index.index c.loop-index.count c.loop-index-test.false c.loop-index.invariant.counts
