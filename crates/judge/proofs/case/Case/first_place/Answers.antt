use Rattle.std.proofs.Common.{arith}
use Rattle.judge.specs.Judged.{case_kept}
use Rattle.judge.proofs.AskedLemmas.{none_yet, is_not_placed, one_more, all_asked}
use Rattle.judge.proofs.case.Case.first_place.Goals as goal

pub loop-index-init : goal.loop-index-init
loop-index-init g c = none_yet (case_kept g.C.Claims.claims c.args.self.now) c.args.body.now.routine c.args.at ((case_kept g.C.Claims.claims c.args.self.now).certificate.facts c.args.at)

pub returns-then-limit-eq-OF_LINES : goal.returns-then-limit-eq-OF_LINES
returns-then-limit-eq-OF_LINES g c = is_not_placed (case_kept g.C.Claims.claims c.args.self.now) c.args.body.now.routine c.args.at ((case_kept g.C.Claims.claims c.args.self.now).certificate.facts c.args.at) c.loop-index.index c.loop-index.limit c.check_fact-limit.result (omega (arith, c.loop-index-test.true, c.requires.count)) c.loop-index.invariant (omega (arith, c.if-limit-eq-OF_LINES.true)) c.check_fact-limit.ensures

pub loop-index-preserved : goal.loop-index-preserved
loop-index-preserved g c = one_more (case_kept g.C.Claims.claims c.args.self.now) c.args.body.now.routine c.args.at ((case_kept g.C.Claims.claims c.args.self.now).certificate.facts c.args.at) c.loop-index.index c.loop-index.limit c.check_fact-limit.result (omega (arith, c.loop-index-test.true, c.requires.count)) c.loop-index.invariant (λ one. omega (arith, one, c.if-limit-eq-OF_LINES.false)) c.check_fact-limit.ensures

pub returns : goal.returns
returns g c = all_asked (case_kept g.C.Claims.claims c.args.self.now) c.args.body.now.routine c.args.at ((case_kept g.C.Claims.claims c.args.self.now).certificate.facts c.args.at) c.loop-index.index c.loop-index.limit (omega (arith, c.loop-index-test.false, c.requires.count)) c.loop-index.invariant
