use Rattle.std.proofs.Common.{ℕ, ◌<◌}
use Rattle.declaration.specs.DeclarationInCode.{meaning as declared}
use Rattle.certificate_lines.specs.CertificateInCode.{claims}
use Rattle.analyser.specs.Attempts.{StandsRight}
use Rattle.analyser.proofs.draft.is_draft.Given as goal

abbrev pub invariant-loop-index : goal.invariant-loop-index
invariant-loop-index g l = (a : ℕ) → a < l.index → StandsRight (declared l.declaration) (claims l.draft) a
