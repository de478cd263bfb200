use Rattle.std.proofs.Common.{◌≡◌, rules, refl, Err, Ok}
use Rattle.certificate_lines.specs.CertificateInCode.{meaning as text_of}
use Rattle.command_parts.proofs.AnswerLemmas.{goes_on, read_alone, refused_so}
use Rattle.diagnostics.proofs.verdicts.certificates.certified_from.Goals as goal

pub returns-in_err-program-clause-reads : goal.returns-in_err-program-clause-reads
returns-in_err-program-clause-reads g c =
    let told : c.from_residual.result ≡ Err c.in_err-program.field-0.0 = search rules in
    rw told (refused_so (λ same. (same, refl)) (λ rest. refused_so (λ none. refl) (λ never. absurd never) rest) c.in_err-program.ensures.reads)

pub returns-in_err-certificate-clause-reads : goal.returns-in_err-certificate-clause-reads
returns-in_err-certificate-clause-reads g c =
    let told : c.from_residual-in_err-certificate.result ≡ Err c.in_err-certificate.field-0.0 = search rules in
    rw told (goes_on (Err _) (λ rest. goes_on (Err _) (λ none. read_alone (Err _) c.in_err-certificate.ensures.faults tt (search rules) c.in_err-certificate.ensures.takes tt) rest) c.in_ok-program.ensures.reads)

pub returns-clause-reads : goal.returns-clause-reads
returns-clause-reads g c =
    goes_on (Ok _) (λ rest. goes_on (Ok _) (λ none.
    read_alone (Ok _) tt (record { lines = text_of c.in_ok-certificate.certificate; claims = c.in_ok-certificate.ensures.claims }, tt) c.in_ok-certificate.ensures.marks c.in_ok-certificate.ensures.takes tt) rest)
    c.in_ok-program.ensures.reads
