use Rattle.std.proofs.Common.{◌≡◌, ◌==◌, nat_lt, true, false, sym, refl, ◌∙◌, arith}
use Rattle.std.proofs.lemmas.Bool.{lt-ltb}
use Rattle.std.proofs.lemmas.Bool.Decides.{nat_tests}
use Rattle.declaration.specs.DeclarationInCode.{meaning}
use Rattle.policy.proofs.CallLemmas.{last_found}
use Rattle.policy.proofs.legality.finds_call.Goals as goal

pub returns-then-value-lt64 : goal.returns-then-value-lt64
returns-then-value-lt64 g c =
    let same : (c.in-Some.call.now.entry == c.args.entry) ≡ true = sym c.eq.ensures ∙ c.if-eq.true in
    let low : nat_lt c.distance-offset.result 64 ≡ true = rw c.value.ensures.same at (lt-ltb c.value.result 64 c.if-value-lt64.true) in
    rw (last_found (meaning c.args.declaration.now) c.args.entry c.args.word c.args.calls.now c.in-Some.call.now (sym c.in-Some.ensures.value), ← c.distance-offset.ensures, same, low) c.has_offset.ensures

pub returns-else-value-lt64 : goal.returns-else-value-lt64
returns-else-value-lt64 g c =
    let same : (c.in-Some.call.now.entry == c.args.entry) ≡ true = sym c.eq.ensures ∙ c.if-eq.true in
    let high : nat_lt c.value.result 64 ≡ false = grind (arith, nat_tests) in
    rw (last_found (meaning c.args.declaration.now) c.args.entry c.args.word c.args.calls.now c.in-Some.call.now (sym c.in-Some.ensures.value), ← c.distance-offset.ensures, ← c.value.ensures.same, same, high) refl

pub returns-else-eq : goal.returns-else-eq
returns-else-eq g c =
    let other : (c.in-Some.call.now.entry == c.args.entry) ≡ false = sym c.eq.ensures ∙ c.if-eq.false in
    rw (last_found (meaning c.args.declaration.now) c.args.entry c.args.word c.args.calls.now c.in-Some.call.now (sym c.in-Some.ensures.value), other) c.if-eq.false
