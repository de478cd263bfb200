use Rattle.declaration.specs.DeclarationInCode.{meaning}
use Rattle.certificate_lines.specs.CertificateInCode.{meaning as text_of}
use Rattle.diagnostics.specs.CheckText.{checked_case}
use Rattle.diagnostics.proofs.CheckLemmas.{verdict_is}
use Rattle.diagnostics.proofs.verdicts.messages.check_message.Goals as goal

pub returns : goal.returns
returns g c = record {
  verdict = c.judge-verdict.result;
  is = verdict_is (checked_case c.args.image.now (meaning c.args.declaration.now) (text_of c.args.certificate.now)) c.judge-verdict.result
      c.judge-verdict.ensures.exact c.judge-verdict.ensures.safe;
  line_is = c.in_ok-line.ensures;
  status_is = c.verdict_status-status.ensures;
}
