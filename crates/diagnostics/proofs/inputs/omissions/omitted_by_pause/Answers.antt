use Rattle.declaration.specs.DeclarationInCode.{meaning, routine_of}
use Rattle.diagnostics.proofs.OmissionLemmas.{goes_out}
use Rattle.diagnostics.proofs.inputs.omissions.omitted_by_pause.Goals as goal

pub returns-then-is_elsewhere : goal.returns-then-is_elsewhere
returns-then-is_elsewhere g c = λ image halt same pause.
    goes_out image (meaning c.args.declaration.now) (routine_of c.args.owner) c.args.at _ _ _ _ _ halt same pause c.of_tests.ensures c.may_skip.ensures c.if-may_skip.false
    c.increment-next.ensures c.is_in_body.ensures c.if-is_in_body.false

pub returns-else-is_elsewhere : goal.returns-else-is_elsewhere
returns-else-is_elsewhere g c = λ image halt same pause.
    goes_out image (meaning c.args.declaration.now) (routine_of c.args.owner) c.args.at _ _ _ _ _ halt same pause c.of_tests.ensures c.may_skip.ensures c.if-may_skip.false
    c.increment-next.ensures c.is_in_body.ensures c.if-is_in_body.false
