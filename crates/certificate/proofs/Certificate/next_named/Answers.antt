use Rattle.std.proofs.Common.{◌≡◌, ◌≤◌, ◌<◌, ◌+◌, ◌-◌, ◌*◌, ◌/◌, arith}
use Rattle.certificate.proofs.SumNamedLemmas.{next_is, next_is_named, none_is_named}
use Rattle.certificate.proofs.Certificate.next_named.Goals as goal

pub returns-then-least-lt4096 : goal.returns-then-least-lt4096
returns-then-least-lt4096 g c =
    let v = c.self.inside.version in let k = c.self.inside.kept in
    let x = c.next_place.result in
    let small : c.args.from < 4096 = (let z = c.if-from-ge4096.false in omega arith) in
    let routine = next_is v k c.self.invariant c.args.from c.next_place-routine.result (omega (arith, small)) c.next_place-routine.ensures in
    let exit = next_is v k c.self.invariant (8192 + 64 * c.args.from) x (omega (arith, small)) c.next_place.ensures in
    let reached : 8192 + 64 * c.args.from ≤ x = exit.reached in
    let same : c.from_index.result ≡ c.min-least.result = (let z = c.if-least-lt4096.true in omega (arith, c.from_index.ensures)) in
    rw (← c.self.view_is, same)
    (next_is_named v k c.self.invariant c.args.from c.next_place-routine.result x ((x - 8192) / 64) c.min-least.result routine exit (omega arith) c.min-least.ensures (omega arith) c.if-least-lt4096.true)

pub returns-else-least-lt4096 : goal.returns-else-least-lt4096
returns-else-least-lt4096 g c =
    let v = c.self.inside.version in let k = c.self.inside.kept in
    let x = c.next_place.result in
    let small : c.args.from < 4096 = (let z = c.if-from-ge4096.false in omega arith) in
    let routine = next_is v k c.self.invariant c.args.from c.next_place-routine.result (omega (arith, small)) c.next_place-routine.ensures in
    let exit = next_is v k c.self.invariant (8192 + 64 * c.args.from) x (omega (arith, small)) c.next_place.ensures in
    let reached : 8192 + 64 * c.args.from ≤ x = exit.reached in
    rw (← c.self.view_is)
    (none_is_named v k c.self.invariant c.args.from c.next_place-routine.result x ((x - 8192) / 64) c.min-least.result routine exit (omega arith) c.min-least.ensures c.if-least-lt4096.false)

pub overflow_sub-exit : goal.overflow_sub-exit
overflow_sub-exit g c =
    let small : c.args.from < 4096 = (let z = c.if-from-ge4096.false in omega arith) in
    let exit = next_is c.self.inside.version c.self.inside.kept c.self.invariant (8192 + 64 * c.args.from) c.next_place.result (omega (arith, small)) c.next_place.ensures in
    let reached : 8192 + 64 * c.args.from ≤ c.next_place.result = exit.reached in omega arith
