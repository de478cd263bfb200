use Rattle.std.proofs.Common.{◌≡◌, false, rules, Err}
use Rattle.certificate_lines.specs.CertificateInCode.{meaning as lines_of}
use Rattle.command_parts.specs.Faults.{fails_to_write}
use Rattle.command_parts.proofs.AnswerLemmas.{good_alone, nothing_written, read_alone, write_follows, written_so}
use Rattle.search_commands.proofs.migrating.migrate.Goals as goal

pub returns-in_err-claims-clause-reads : goal.returns-in_err-claims-clause-reads
returns-in_err-claims-clause-reads g c =
    let told : c.from_residual.result ≡ Err c.in_err-claims.field-0.0 = search rules in
    rw told (read_alone (Err _) c.in_err-claims.ensures.faults tt (search rules) c.in_err-claims.ensures.takes tt)

pub returns-in_err-claims-clause-migrated : goal.returns-in_err-claims-clause-migrated
returns-in_err-claims-clause-migrated g c =
    let told : c.from_residual.result ≡ Err c.in_err-claims.field-0.0 = search rules in
    let unwritten : fails_to_write c.from_residual.result ≡ false = search rules in
    rw told (nothing_written c.in_err-claims.field-0.0 c.requires.writable (rw told at unwritten))

pub returns-clause-reads : goal.returns-clause-reads
returns-clause-reads g c =
    good_alone c.write_certificate.result (write_follows _ c.write_certificate.result c.write_certificate.ensures.faults)
    (record { lines = lines_of c.in_ok-claims.claims; claims = c.in_ok-claims.ensures.claims }) c.in_ok-claims.ensures.marks c.in_ok-claims.ensures.takes

pub returns-clause-migrated : goal.returns-clause-migrated
returns-clause-migrated g c =
    written_so (λ status text same. (same.0, record { lines = lines_of c.in_ok-claims.claims; claims = c.in_ok-claims.ensures.claims; text_is = search rules }))
    c.write_certificate.ensures.writes
