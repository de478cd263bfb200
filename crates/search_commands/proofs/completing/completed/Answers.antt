use Rattle.declaration.specs.DeclarationInCode.{meaning}
use Rattle.search_commands.proofs.CompleteLemmas.{fit_if, own_extension, shown_completes}
use Rattle.search_commands.proofs.completing.completed.Goals as goal

pub lacking-requires : goal.lacking-requires
lacking-requires g c = rw c.as_slice-bytes.ensures.value (own_extension _ _ _ c.requires)

pub returns-in_default-clause-completes : goal.returns-in_default-clause-completes
returns-in_default-clause-completes g c = c.lacking.ensures.completes c.args.image.now

pub returns-in-Ok-clause-completes : goal.returns-in-Ok-clause-completes
returns-in-Ok-clause-completes g c =
    shown_completes c.args.image.now _ _ _ (meaning c.in-Some.more) _
    (rw (c.as_slice-bytes.ensures.value, c.deref.ensures.value) at (rw c.in-Some.is at c.in_ok-more.ensures.extends))
    (rw c.in-Ok.is at c.in_ok-_certificate.ensures.shown)

pub lacking-requires-in-Err : goal.lacking-requires-in-Err
lacking-requires-in-Err g c =
    rw c.deref-in-Err.ensures.value (rw (c.as_slice-bytes.ensures.value, c.deref.ensures.value) at (fit_if meaning _ _ _ _ _ _ c.in-Some.is c.in_ok-more.ensures.extends))

pub returns-in-Err-clause-completes : goal.returns-in-Err-clause-completes
returns-in-Err-clause-completes g c = c.lacking-in-Err.ensures.completes c.args.image.now
