use Rattle.std.proofs.Common.{rules}
use Rattle.std.proofs.lemmas.Result.{IfOk-weaker}
use Rattle.declaration.specs.DeclarationInCode.{meaning}
use Rattle.search_commands.specs.CompleteText.{Completes, CompletesBy}
use Rattle.search_commands.proofs.CompleteLemmas.{completes_by, own_completes}
use Rattle.search_commands.proofs.completing.complete.Goals as goal

pub returns-in-Ok-clause-completes : goal.returns-in-Ok-clause-completes
returns-in-Ok-clause-completes g c = own_completes _ _ _ _ c.requires (rw c.in-Ok.is at c.in_ok-_certificate.ensures.shown)

pub returns-in_ok-proposal-in-Err-clause-completes : goal.returns-in_ok-proposal-in-Err-clause-completes
returns-in_ok-proposal-in-Err-clause-completes g c =
    IfOk-weaker c.completed.result
    (λ told. CompletesBy c.args.given.text.items c.args.image.now (meaning c.args.given.declaration) (meaning c.in_ok-proposal-in-Err.proposal.declaration) told.status told.text.items)
    (λ told. Completes c.args.given.text.items c.args.reads c.args.image.now (meaning c.args.given.declaration) told.status told.text.items)
    (λ told by. completes_by _ _ _ _ _ _ _ (search rules) by) c.completed.ensures.completes
