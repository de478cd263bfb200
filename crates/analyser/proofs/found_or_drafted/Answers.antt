use Rattle.std.proofs.Common.{subst}
use Rattle.std.specs.Prelude.{IfOk}
use Rattle.declaration.specs.DeclarationInCode.{meaning as declared}
use Rattle.analyser.specs.Attempts.{IsDraftIfStuck}
use Rattle.analyser.proofs.found_or_drafted.Goals as goal

pub returns-clause-draft : goal.returns-clause-draft
returns-clause-draft g c = subst (λ d. IfOk c.drafted_by.result (IsDraftIfStuck (declared d))) c.of-program.ensures.declaration c.drafted_by.ensures.draft
