use Rattle.std.proofs.Common.{◌≡◌, ◌≤◌, ◌<◌, ◌+◌, ◌-◌, ◌*◌, arith}
use Rattle.certificate.proofs.SumNamedLemmas.{next_is, next_exit, no_next_exit}
use Rattle.certificate.proofs.Certificate.next_offset.Goals as goal

pub returns-then-place-first : goal.returns-then-place-first
returns-then-place-first g c =
    let v = c.self.inside.version in let k = c.self.inside.kept in
    let m = c.min-least.result in
    let low = c.index.ensures.small in
    let is = c.index.ensures.same in
    let under : m ≤ 64 = omega (arith, c.min-least.ensures) in
    let below : m ≤ c.args.from = omega (arith, c.min-least.ensures) in
    let same : 8192 + 64 * c.index.result + m ≡ 8192 + 64 * c.args.entry + m = omega (arith, is) in
    let next = rw same at (next_is v k c.self.invariant (8192 + 64 * c.index.result + m) c.next_place-place.result (omega (arith, low, under)) c.next_place-place.ensures) in
    let past : 8192 + 64 * c.args.entry + 64 ≤ c.next_place-place.result = (let z = c.if-place-first.true in omega (arith, is)) in
    rw (← c.self.view_is) (λ o late few. no_next_exit v k c.self.invariant c.args.entry m c.next_place-place.result (omega (arith, low, is)) next past o (omega (arith, late, below)) few)

pub returns : goal.returns
returns g c =
    let v = c.self.inside.version in let k = c.self.inside.kept in
    let m = c.min-least.result in
    let low = c.index.ensures.small in
    let is = c.index.ensures.same in
    let under : m ≤ 64 = omega (arith, c.min-least.ensures) in
    let same : 8192 + 64 * c.index.result + m ≡ 8192 + 64 * c.args.entry + m = omega (arith, is) in
    let next = rw same at (next_is v k c.self.invariant (8192 + 64 * c.index.result + m) c.next_place-place.result (omega (arith, low, under)) c.next_place-place.ensures) in
    let reached : 8192 + 64 * c.args.entry + m ≤ c.next_place-place.result = next.reached in
    let short : c.next_place-place.result < 8192 + 64 * c.args.entry + 64 = (let z = c.if-place-first.false in omega (arith, is)) in
    let all : m ≡ c.args.from = omega (arith, reached, short, c.min-least.ensures) in
    let small : c.args.from < 64 = omega (arith, reached, short, all) in
    let minus : c.next_place-place.result - (8192 + 64 * c.index.result) ≡ c.next_place-place.result - (8192 + 64 * c.args.entry) = omega (arith, is) in
    rw (← c.self.view_is, minus) (next_exit v k c.self.invariant c.args.entry c.args.from c.next_place-place.result (omega (arith, low, is)) small (rw all at next) short)

pub overflow_sub-result : goal.overflow_sub-result
overflow_sub-result g c =
    let m = c.min-least.result in
    let low = c.index.ensures.small in
    let under : m ≤ 64 = omega (arith, c.min-least.ensures) in
    let next = next_is c.self.inside.version c.self.inside.kept c.self.invariant (8192 + 64 * c.index.result + m) c.next_place-place.result (omega (arith, low, under)) c.next_place-place.ensures in
    let reached : 8192 + 64 * c.index.result + m ≤ c.next_place-place.result = next.reached in omega (arith, reached)
