use Rattle.std.proofs.Common.{None, ap, refl, ◌∙◌}
use Rattle.processor.specs.Steps.{state_of}
use Rattle.declaration.specs.DeclarationInCode.{meaning}
use Rattle.policy.specs.Decided.{assertions_hold}
use Rattle.policy.specs.OpenCalls.{open_calls}
use Rattle.policy.specs.declared.rules.Rule.TheVariants.{AssertionsHold}
use Rattle.policy.proofs.LegalLemmas.{kept_legal, first_broken, found_in_body, then_asserted}
use Rattle.policy.proofs.legality.legal_instruction.Goals as goal

pub returns-in-Some-clause-broken : goal.returns-in-Some-clause-broken
returns-in-Some-clause-broken g c = λ image code.
    let d = meaning c.args.declaration.now in
    let s = state_of c.args.cpu.now in
    let ks = open_calls c.args.calls.now in
    let holds = assertions_hold d c.fetch-instruction.result s ks in
    let found = found_in_body d c.args.cpu.now.profile s ks c.fetch-instruction.result c.in_body.result c.broken_by.result holds
    c.requires c.fetch-instruction.ensures c.in_body.ensures c.if-not-in_body.false c.broken_by.ensures refl in
    first_broken image d s ks c.in-Some.rule c.are_words.ensures code (found ∙ ap (λ b. then_asserted b holds) c.in-Some.is)

pub returns-then-assertions_hold-clause-legal : goal.returns-then-assertions_hold-clause-legal
returns-then-assertions_hold-clause-legal g c = λ image code.
    let d = meaning c.args.declaration.now in
    let s = state_of c.args.cpu.now in
    let ks = open_calls c.args.calls.now in
    let found = found_in_body d c.args.cpu.now.profile s ks c.fetch-instruction.result c.in_body.result c.broken_by.result c.assertions_hold.result
    c.requires c.fetch-instruction.ensures c.in_body.ensures c.if-not-in_body.false c.broken_by.ensures c.assertions_hold.ensures in
    kept_legal image d s ks c.are_words.ensures code (found ∙ (ap (λ b. then_asserted b c.assertions_hold.result) c.in-None.is ∙ ap (λ h. then_asserted None h) c.if-assertions_hold.true))

pub returns-else-assertions_hold-clause-broken : goal.returns-else-assertions_hold-clause-broken
returns-else-assertions_hold-clause-broken g c = λ image code.
    let d = meaning c.args.declaration.now in
    let s = state_of c.args.cpu.now in
    let ks = open_calls c.args.calls.now in
    let found = found_in_body d c.args.cpu.now.profile s ks c.fetch-instruction.result c.in_body.result c.broken_by.result c.assertions_hold.result
    c.requires c.fetch-instruction.ensures c.in_body.ensures c.if-not-in_body.false c.broken_by.ensures c.assertions_hold.ensures in
    first_broken image d s ks AssertionsHold c.are_words.ensures code (found ∙ (ap (λ b. then_asserted b c.assertions_hold.result) c.in-None.is ∙ ap (λ h. then_asserted None h) c.if-assertions_hold.false))
