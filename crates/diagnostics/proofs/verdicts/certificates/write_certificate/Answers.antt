use Rattle.std.proofs.Common.{◌≡◌, rules, refl, Err}
use Rattle.certificate_lines.specs.CertificateInCode.{meaning as text_of}
use Rattle.certificate_lines.specs.Laws.{bytes_of}
use Rattle.command_parts.specs.declared.status.Fault.TheVariants.{Device}
use Rattle.command_parts.specs.declared.status.DeviceFault.TheVariants.{Write}
use Rattle.command_parts.specs.declared.status.Status.TheVariants.{Done}
use Rattle.command_parts.proofs.AnswerLemmas.{front_written, text_written}
use Rattle.diagnostics.proofs.verdicts.certificates.write_certificate.Goals as goal

pub returns-clause-writes : goal.returns-clause-writes
returns-clause-writes g c = text_written Done (bytes_of (text_of c.args.certificate.now)) (refl, refl) (search rules) (search rules)

pub returns-in_err-write-clause-writes : goal.returns-in_err-write-clause-writes
returns-in_err-write-clause-writes g c =
    let told : c.from_residual.result ≡ Err (Device Write) = search rules in
    rw told (front_written Done (bytes_of (text_of c.args.certificate.now)) (refl, refl) (search rules) (search rules))
