use Rattle.declaration.specs.DeclarationInCode.{meaning}
use Rattle.certificate_lines.specs.CertificateInCode.{meaning as lines_of}
use Rattle.diagnostics.specs.CheckText.{checked_case}
use Rattle.diagnostics.proofs.CheckLemmas.{verdict_is}
use Rattle.search_commands.proofs.checking.verdict_of.Goals as goal

pub returns-clause-verdict : goal.returns-clause-verdict
returns-clause-verdict g c = record {
  verdict = c.judge-verdict.result;
  is = verdict_is (checked_case c.args.certified.now.program.image (meaning c.args.certified.now.program.declaration) (lines_of c.args.certified.now.certificate))
      c.judge-verdict.result c.judge-verdict.ensures.exact c.judge-verdict.ensures.safe;
  line_is = c.in_ok-text.ensures;
  status_is = c.verdict_status-status.ensures;
}
