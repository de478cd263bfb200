use Rattle.std.proofs.Common.{◌≡◌, true, false, sym, ◌∙◌, refl}
use Rattle.declaration.specs.DeclarationInCode.{meaning}
use Rattle.policy.specs.Decided.{is_abandon, is_call, is_return}
use Rattle.policy.proofs.CallLemmas.{more_calls, popped_calls}
use Rattle.policy.proofs.watcher.follow_calls.Goals as goal

pub returns-in-Ok-clause-calls : goal.returns-in-Ok-clause-calls
returns-in-Ok-clause-calls g c =
    let call : is_call (meaning c.args.declaration.now) c.in-Refers.reference ≡ true = sym c.is_call.ensures ∙ c.if-is_call.true in
    rw (c.in-Ok.ensures.items, more_calls c.args.calls.now.items _, c.in-Refers.is, call) refl

pub returns-then-is_return-clause-calls : goal.returns-then-is_return-clause-calls
returns-then-is_return-clause-calls g c =
    let call : is_call (meaning c.args.declaration.now) c.in-Refers.reference ≡ false = sym c.is_call.ensures ∙ c.if-is_call.false in
    let back : is_return (meaning c.args.declaration.now) c.in-Refers.reference ≡ true = sym c.is_return.ensures ∙ c.if-is_return.true in
    let popped = popped_calls c.args.calls.now.items c.pop.new.self.items c.pop.result c.pop.ensures.items (λ none. let empty = rw none at c.pop.ensures.cases in c.pop.ensures.rest ∙ rw empty.0 refl) in
    rw (c.in-Refers.is, call, back) popped
