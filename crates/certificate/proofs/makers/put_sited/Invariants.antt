use Rattle.std.proofs.Common.{◌≡◌, ◌++◌, map, drop}
use Rattle.declaration.specs.DeclarationInCode.{meaning as declared}
use Rattle.certificate_lines.specs.CertificateInCode.{claims}
use Rattle.certificate_lines.specs.Packed.{said_lines}
use Rattle.certificate_lines.specs.Made.{sited_by}
use Rattle.certificate.proofs.makers.put_sited.Given as goal

abbrev pub invariant-loop-at : goal.invariant-loop-at
invariant-loop-at g l =
    said_lines l.kept ++ map (sited_by (declared l.declaration) (claims l.certificate)) (drop l.at (said_lines l.lines)) ≡
    said_lines l.fn.kept ++ map (sited_by (declared l.declaration) (claims l.certificate)) (said_lines l.lines)
