use Rattle.judge.specs.Judged.{case_kept}
use Rattle.transfer.proofs.EntailLemmas.{not_both}
use Rattle.judge.proofs.CaseLemmas.{held_further, held_everywhere, not_held}
use Rattle.judge.proofs.case.Case.exits_are_held.Goals as goal

pub returns-then-not-exits_are_held_by : goal.returns-then-not-exits_are_held_by
returns-then-not-exits_are_held_by g c = not_held (case_kept g.C.Claims.claims c.args.self.now) c.args.entry c.in-Some.offset c.in-Some.ensures.0 (not_both _ c.if-not-exits_are_held_by.true c.exits_are_held_by.ensures.1)

pub loop-offset-preserved : goal.loop-offset-preserved
loop-offset-preserved g c = held_further (case_kept g.C.Claims.claims c.args.self.now) c.args.entry c.loop-offset.from c.in-Some.offset c.in-Some.ensures.1 (c.exits_are_held_by.ensures.0 c.if-not-exits_are_held_by.false) c.loop-offset.invariant

pub returns : goal.returns
returns g c = held_everywhere (case_kept g.C.Claims.claims c.args.self.now) c.args.entry c.loop-offset.from c.in_default.ensures c.loop-offset.invariant
