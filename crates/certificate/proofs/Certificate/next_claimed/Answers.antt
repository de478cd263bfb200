use Rattle.std.proofs.Common.{◌≡◌, ◌≤◌, ◌<◌, ◌+◌, ◌-◌, ◌*◌, ◌/◌, arith}
use Rattle.certificate.proofs.SumNamedLemmas.{next_is, fact_is_claimed, least_of, next_is_claimed, none_is_claimed}
use Rattle.certificate.proofs.Certificate.next_claimed.Goals as goal

pub returns-then-least-lt4096 : goal.returns-then-least-lt4096
returns-then-least-lt4096 g c =
    let v = c.self.inside.version in let k = c.self.inside.kept in
    let f = c.next_place-fact.result in
    let x = c.next_place.result in
    let small : c.args.from < 4096 = (let z = c.if-from-ge4096.false in omega arith) in
    let routine = next_is v k c.self.invariant c.args.from c.next_place-routine.result (omega (arith, small)) c.next_place-routine.ensures in
    let fact = next_is v k c.self.invariant (4096 + c.args.from) f (omega (arith, small)) c.next_place-fact.ensures in
    let exit = next_is v k c.self.invariant (8192 + 64 * c.args.from) x (omega (arith, small)) c.next_place.ensures in
    let low : 4096 + c.args.from ≤ f = fact.reached in
    let reached : 8192 + 64 * c.args.from ≤ x = exit.reached in
    let l = least_of c.next_place-routine.result (f - 4096) ((x - 8192) / 64) c.min.result c.min-least.result c.min.ensures c.min-least.ensures in
    let same : c.from_index-then-least-lt4096.result ≡ c.min-least.result = (let z = c.if-least-lt4096.true in omega (arith, c.from_index-then-least-lt4096.ensures)) in
    rw (← c.self.view_is, same)
    (next_is_claimed v k c.self.invariant c.args.from c.next_place-routine.result f x (f - 4096) ((x - 8192) / 64) c.min-least.result routine fact exit (omega arith) (omega arith)
    l.under_r l.under_f l.under_x l.one (omega arith) c.if-least-lt4096.true)

pub returns-else-least-lt4096 : goal.returns-else-least-lt4096
returns-else-least-lt4096 g c =
    let v = c.self.inside.version in let k = c.self.inside.kept in
    let f = c.next_place-fact.result in
    let x = c.next_place.result in
    let small : c.args.from < 4096 = (let z = c.if-from-ge4096.false in omega arith) in
    let routine = next_is v k c.self.invariant c.args.from c.next_place-routine.result (omega (arith, small)) c.next_place-routine.ensures in
    let fact = next_is v k c.self.invariant (4096 + c.args.from) f (omega (arith, small)) c.next_place-fact.ensures in
    let exit = next_is v k c.self.invariant (8192 + 64 * c.args.from) x (omega (arith, small)) c.next_place.ensures in
    let low : 4096 + c.args.from ≤ f = fact.reached in
    let reached : 8192 + 64 * c.args.from ≤ x = exit.reached in
    let l = least_of c.next_place-routine.result (f - 4096) ((x - 8192) / 64) c.min.result c.min-least.result c.min.ensures c.min-least.ensures in
    rw (← c.self.view_is)
    (none_is_claimed v k c.self.invariant c.args.from c.next_place-routine.result f x (f - 4096) ((x - 8192) / 64) c.min-least.result routine fact exit (omega arith) (omega arith)
    l.under_r l.under_f l.under_x l.one c.if-least-lt4096.false)

pub returns-then-fact-from : goal.returns-then-fact-from
returns-then-fact-from g c =
    let v = c.self.inside.version in let k = c.self.inside.kept in
    let f = c.next_place-fact.result in
    let from = c.args.from in
    let small : from < 4096 = (let z = c.if-from-ge4096.false in omega arith) in
    let fact = next_is v k c.self.invariant (4096 + from) f (omega (arith, small)) c.next_place-fact.ensures in
    let reached : 4096 + from ≤ f = fact.reached in
    let at : f ≡ 4096 + from = (let z = c.if-fact-from.true in omega arith) in
    let same : c.from_index.result ≡ from = omega (arith, c.from_index.ensures) in
    rw (← c.self.view_is, same) (fact_is_claimed v k c.self.invariant from f small fact at)

pub overflow_sub-fact : goal.overflow_sub-fact
overflow_sub-fact g c =
    let small : c.args.from < 4096 = (let z = c.if-from-ge4096.false in omega arith) in
    let fact = next_is c.self.inside.version c.self.inside.kept c.self.invariant (4096 + c.args.from) c.next_place-fact.result (omega (arith, small)) c.next_place-fact.ensures in
    let reached : 4096 + c.args.from ≤ c.next_place-fact.result = fact.reached in omega arith

pub overflow_sub-exit : goal.overflow_sub-exit
overflow_sub-exit g c =
    let small : c.args.from < 4096 = (let z = c.if-from-ge4096.false in omega arith) in
    let exit = next_is c.self.inside.version c.self.inside.kept c.self.invariant (8192 + 64 * c.args.from) c.next_place.result (omega (arith, small)) c.next_place.ensures in
    let reached : 8192 + 64 * c.args.from ≤ c.next_place.result = exit.reached in omega arith
