use Rattle.std.proofs.Common.{◌≡◌, rules, refl, Err}
use Rattle.declaration.specs.DeclarationInCode.{meaning}
use Rattle.certificate_lines.specs.CertificateInCode.{meaning as lines_of}
use Rattle.certificate_lines.specs.Laws.{bytes_of}
use Rattle.command_parts.specs.Faults.{fault_of_guess}
use Rattle.command_parts.specs.declared.status.Status.TheVariants.{Done}
use Rattle.command_parts.proofs.AnswerLemmas.{nothing_written, outcome_written, two_good, two_refused, write_follows}
use Rattle.search_commands.proofs.guessing.guess.Goals as goal

pub returns-in_err-program-clause-reads : goal.returns-in_err-program-clause-reads
returns-in_err-program-clause-reads g c =
    let told : c.from_residual.result ≡ Err c.in_err-program.field-0.0 = search rules in
    rw told (two_refused c.in_err-program.ensures.reads)

pub returns-in_err-program-clause-guessed : goal.returns-in_err-program-clause-guessed
returns-in_err-program-clause-guessed g c =
    let told : c.from_residual.result ≡ Err c.in_err-program.field-0.0 = search rules in
    rw told (nothing_written c.in_err-program.field-0.0 c.requires.writable c.in_err-program.ensures.unwritten)

pub returns-in_err-claims-clause-reads : goal.returns-in_err-claims-clause-reads
returns-in_err-claims-clause-reads g c =
    two_good c.from_residual-in_err-claims.result (search rules) c.in_ok-program.ensures.reads

pub returns-in_err-claims-clause-guessed : goal.returns-in_err-claims-clause-guessed
returns-in_err-claims-clause-guessed g c =
    let told : c.from_residual-in_err-claims.result ≡ Err (fault_of_guess c.in_err-claims.field-0.0) = search rules in
    rw told (nothing_written (fault_of_guess c.in_err-claims.field-0.0) c.requires.writable (search rules))

pub returns-clause-reads : goal.returns-clause-reads
returns-clause-reads g c =
    two_good c.write_certificate.result (write_follows _ c.write_certificate.result c.write_certificate.ensures.faults) c.in_ok-program.ensures.reads

pub returns-clause-guessed : goal.returns-clause-guessed
returns-clause-guessed g c =
    outcome_written Done (bytes_of (lines_of c.in_ok-claims.claims))
    (record {
      image = c.in_ok-program.program.image;
      tape = c.in_ok-program.ensures.image;
      declaration = meaning c.in_ok-program.program.declaration;
      declares = c.in_ok-program.ensures.declares;
      is = record {
        lines = lines_of c.in_ok-claims.claims;
        lines_are = c.in_ok-claims.ensures.lines;
        version_is = c.in_ok-claims.ensures.version;
        guess_is = refl;
        accepted = record { valid = c.in_ok-claims.ensures.accepted.valid; safe = c.in_ok-claims.ensures.accepted.safe };
        status_is = refl;
      };
    })
    c.write_certificate.ensures.writes
