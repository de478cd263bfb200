use Rattle.std.proofs.Common.{◌<◌, arith, take, length, List}
use Rattle.std.specs.Prelude.{reverse}
use Rattle.pal_acts.specs.Acts.{PlacedAct, shown}
use Rattle.pal_acts.specs.Values.{Values, known}
use Rattle.pal_acts.specs.Steps.{FindsBy}
use Rattle.pal_text.proofs.Cuts.{told_on}
use Rattle.pal_acts.proofs.Places.{turned_more}
use Rattle.pal_acts.proofs.Coded.{stops_keeping}
use Rattle.pal_acts.proofs.Worded.{all_encoded, all_kept}
use Rattle.pal_acts.proofs.assembly.keep_all.Goals as goal

pub loop-at-preserved : goal.loop-at-preserved
loop-at-preserved g c =
    let acts : List PlacedAct = c.args.acts.now in
    let within : c.loop-at.at < length acts = omega arith in
    let next : PlacedAct = shown c.get.result in
    let more = turned_more acts c.loop-at.at next within c.get.ensures in
    rw more (c.in_ok-keep.ensures.keeps (reverse (take c.loop-at.at acts)) c.loop-at.invariant.2 c.loop-at.invariant.0 c.loop-at.invariant.1)

pub returns-in_err-keep-clause-refused : goal.returns-in_err-keep-clause-refused
returns-in_err-keep-clause-refused g c =
    let acts : List PlacedAct = c.args.acts.now in
    let within : c.loop-at.at < length acts = omega arith in
    let σ : Values = known c.args.symbols.now.permanent.now.entries c.args.symbols.now.own.entries in
    told_on c.from_residual.result c.in_err-keep.field-0.0 (FindsBy σ acts) c.from_residual.ensures.1
    (stops_keeping σ acts c.loop-at.at (shown c.get.result) c.loop-at.here within c.get.ensures c.loop-at.invariant.2 c.loop-at.invariant.1 c.in_err-keep.field-0.0 c.in_err-keep.ensures.refused)

pub loop-at-init : goal.loop-at-init
loop-at-init g c = (c.requires, tt, c.from_index-here.ensures)

pub returns-clause-encodes : goal.returns-clause-encodes
returns-clause-encodes g c = all_encoded _ c.args.acts.now c.loop-at.at (omega arith) c.loop-at.invariant.1

pub returns-clause-words : goal.returns-clause-words
returns-clause-words g c = all_kept _ c.args.acts.now c.loop-at.at c.loop-at.kept.items (omega arith) c.loop-at.invariant.0
