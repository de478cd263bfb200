use Rattle.std.proofs.Common.{◌≡◌, ◌≤◌, ◌<◌, ◌+◌, arith}
use Rattle.certificate_lines.specs.Runs.{StandApart}
use Rattle.certificate_lines.proofs.ApartLemmas.{one_apart, all_apart}
use Rattle.certificate_lines.proofs.runs.stand_apart.Goals as goal

pub loop-run-preserved : goal.loop-run-preserved
loop-run-preserved c = λ rest more.
    let first : c.index-first.result ≡ c.run-item.result.first = c.index-first.ensures.same in
    let last : c.index-last.result ≡ c.run-item.result.last = c.index-last.ensures.same in
    let reached : c.loop-run.next ≤ c.run-item.result.first = omega (arith, c.if-first-next.false, first) in
    let order : c.run-item.result.first ≤ c.run-item.result.last = omega (arith, c.if-last-first.false, first, last) in
    let small : c.run-item.result.last < 4096 = omega (arith, last, c.index-last.ensures.small) in
    let after : StandApart (c.run-item.result.last + 2) rest = rw last at more in
    one_apart c.args.runs.now rest c.loop-run.run-index c.loop-run.next c.run-item.result c.loop-run-test.true c.run-item.is c.loop-run.invariant reached order small after

pub returns : goal.returns
returns c = λ here. all_apart c.args.runs.now c.loop-run.run-index c.loop-run.next c.loop-run-test.false c.loop-run.invariant
