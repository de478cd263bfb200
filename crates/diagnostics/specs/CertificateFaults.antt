-- Which faults a certificate that is read may have, and how a command reads it.
use Rattle.std.specs.Prelude.{◌≡◌, IfSome, Result, Err, ⊤}
use Rattle.streams.specs.Bytes.{Gave}
use Rattle.certificate_lines.specs.Reading.{reading}
use Rattle.certificate_lines.specs.Serving.{AsksForMemory}
use Rattle.command_parts.specs.declared.status.Fault.{Fault}
use Rattle.command_parts.specs.declared.status.Fault.TheVariants.{Certificate, Device}
use Rattle.command_parts.specs.declared.status.Fault.TheVariants as fault
use Rattle.command_parts.specs.declared.status.DeviceFault.TheVariants.{Read}
use Rattle.command_parts.specs.Answers.{FailsBy, Reads, ReadsDeclaration, ReadsTape}
use Rattle.command_parts.specs.Inputs.{Input}
use Rattle.diagnostics.specs.CertificateInputs.{FailsInCertificate, IsGoodCertificate, TakesCertificate}

-- Why a certificate's text was not read: it has this fault, a read failed before the bytes given brought an answer, or
-- memory was refused once a line had come that is kept.
abbrev pub IsCertificateInputFault : Input → Fault → Type 0
IsCertificateInputFault text (Certificate fault) = IfSome text.had (λ bytes. reading bytes ≡ Err fault)
IsCertificateInputFault text (Device Read) = FailsInCertificate text
IsCertificateInputFault text fault.NoMemory = Gave text.had text.left AsksForMemory
IsCertificateInputFault text _ = ⊥

-- How a command reads a certificate, with what comes after it.
abbrev pub ReadsCertificate : {T : Type 0} → Input → Type 0 → (Result T Fault → Type 0) → Result T Fault → Type 0
ReadsCertificate certificate untouched Rest result = Reads IsCertificateInputFault IsGoodCertificate TakesCertificate certificate untouched Rest result

-- How a command reads a tape, a declaration and a certificate.
abbrev pub ReadsCertified : {T : Type 0} → (Fault → Type 0) → Input → Input → Input → Type 0 → Type 0 → Result T Fault → Type 0
ReadsCertified IsLater tape text certificate text_untouched certificate_untouched result =
    ReadsTape tape (text_untouched × certificate_untouched) (ReadsDeclaration text certificate_untouched (ReadsCertificate certificate ⊤ (FailsBy IsLater))) result
