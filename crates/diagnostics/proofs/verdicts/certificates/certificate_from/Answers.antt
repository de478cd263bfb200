use Rattle.std.proofs.Common.{Err, ap, ◌∙◌}
use Rattle.certificate_lines.specs.ReadFaults.{is_read_fault}
use Rattle.diagnostics.proofs.CheckLemmas.{has_certificate, certificate_fault_is}
use Rattle.diagnostics.proofs.verdicts.certificates.certificate_from.Goals as goal

pub returns-in-Ok-clause-claims : goal.returns-in-Ok-clause-claims
returns-in-Ok-clause-claims g c =
    has_certificate (g.R.ByteSource.remaining c.args.source.now) c.in-Ok.certificate c.in-Ok.ensures.read

pub returns-in-Err-clause-faults : goal.returns-in-Err-clause-faults
returns-in-Err-clause-faults g c =
    rw c.from.ensures (certificate_fault_is c.in-Err.fault (g.R.ByteSource.mark c.read_from.new.source) (g.R.ByteSource.remaining c.args.source.now) (g.R.ByteSource.remaining c.read_from.new.source)
    c.in-Err.ensures.refused (λ e. c.in-Err.ensures.memory (ap Err e)) (λ e. record { failed = c.in-Err.ensures.failed ∙ ap is_read_fault e; unanswered = c.in-Err.ensures.unanswered (ap Err e) }))
