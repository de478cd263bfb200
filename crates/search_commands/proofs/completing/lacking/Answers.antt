use Rattle.declaration.specs.DeclarationInCode.{meaning}
use Rattle.search_commands.proofs.CompleteLemmas.{fit_if, lacking_completes}
use Rattle.search_commands.proofs.completing.lacking.Goals as goal

pub returns-in-Some-clause-completes : goal.returns-in-Some-clause-completes
returns-in-Some-clause-completes g c image =
    lacking_completes image _ _ _ _ (rw (c.as_slice-bytes.ensures.value, c.deref.ensures.value) at (fit_if meaning _ _ _ _ _ _ c.in-Some.is c.in_ok-_found.ensures.extends))

pub returns-in_ok-text-in-None-clause-completes : goal.returns-in_ok-text-in-None-clause-completes
returns-in_ok-text-in-None-clause-completes g c image = lacking_completes image _ _ _ _ (rw c.in_ok-text-in-None.ensures c.requires)
