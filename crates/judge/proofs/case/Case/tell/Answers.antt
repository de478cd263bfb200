use Rattle.std.proofs.Common.{arith}
use Rattle.judge.specs.Judged.{case_kept}
use Rattle.judge.proofs.LineLemmas.{some_not_placed, all_hold_here, one_fails_here}
use Rattle.judge.proofs.case.Case.tell.Goals as goal

pub returns-then-place-eq-OF_LINES : goal.returns-then-place-eq-OF_LINES
returns-then-place-eq-OF_LINES g c = some_not_placed (case_kept g.C.Claims.claims c.args.self.now) c.args.at c.args.body.now.routine c.args.place c.is_declared.ensures c.requires.stands c.requires.some (omega (arith, c.if-place-eq-OF_LINES.true)) c.requires.least

pub returns-then-place-ge-PAST_ALL : goal.returns-then-place-ge-PAST_ALL
returns-then-place-ge-PAST_ALL g c = all_hold_here (case_kept g.C.Claims.claims c.args.self.now) c.args.at c.args.body.now.routine c.args.place c.is_declared.ensures c.requires.stands c.requires.placed c.requires.body.listed (omega (arith, c.if-place-ge-PAST_ALL.true)) c.requires.least

pub returns : goal.returns
returns g c = one_fails_here (case_kept g.C.Claims.claims c.args.self.now) c.args.at c.args.body.now.routine c.args.place c.nth.result c.is_declared.ensures c.requires.stands c.requires.placed c.requires.body.listed c.requires.some (λ one. omega (arith, one, c.if-place-eq-OF_LINES.false)) (omega (arith, c.if-place-ge-PAST_ALL.false)) c.nth.ensures c.requires.least
