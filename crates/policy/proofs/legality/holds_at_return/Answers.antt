use Rattle.std.proofs.Common.{◌≡◌, ◌==◌, true, false, sym, refl, ◌∙◌}
use Rattle.processor.specs.Steps.{state_of}
use Rattle.declaration.specs.DeclarationInCode.{meaning}
use Rattle.policy.proofs.CallLemmas.{last_holds}
use Rattle.policy.proofs.legality.holds_at_return.Goals as goal

pub returns-then-eq : goal.returns-then-eq
returns-then-eq g c =
    let same : (c.in-Some.call.now.entry == c.args.entry) ≡ true = sym c.eq.ensures ∙ c.if-eq.true in
    rw (last_holds (meaning c.args.declaration.now) c.args.entry (state_of c.args.cpu.now) c.args.calls.now c.in-Some.call.now (sym c.in-Some.ensures.value), same, ← c.get.ensures, ← c.distance-offset.ensures, ← c.returns.ensures)
    c.each_holds_by.ensures

pub returns-else-eq : goal.returns-else-eq
returns-else-eq g c =
    let other : (c.in-Some.call.now.entry == c.args.entry) ≡ false = sym c.eq.ensures ∙ c.if-eq.false in
    rw (last_holds (meaning c.args.declaration.now) c.args.entry (state_of c.args.cpu.now) c.args.calls.now c.in-Some.call.now (sym c.in-Some.ensures.value), other) refl
