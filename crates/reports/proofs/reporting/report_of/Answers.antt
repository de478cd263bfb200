use Rattle.std.proofs.Common.{rules}
use Rattle.declaration.specs.DeclarationInCode.{meaning}
use Rattle.certificate_lines.specs.CertificateInCode.{meaning as text_of}
use Rattle.diagnostics.specs.CheckText.{checked_case}
use Rattle.diagnostics.proofs.CheckLemmas.{verdict_is}
use Rattle.reports.proofs.FindingLemmas.{is_finding}
use Rattle.reports.proofs.reporting.report_of.Goals as goal

pub below_lines-requires : goal.below_lines-requires
below_lines-requires g c =
    rw (
      c.in_ok-report.ensures.finding,
      c.in_ok-report.ensures.failing,
      c.in_ok-report.ensures.program.0,
      c.in_ok-report.ensures.program.1,
      c.in_ok-report.ensures.certificate,
      c.finding_of-finding.ensures.finding,
      c.finding_of-finding.ensures.failing,
    )
    (is_finding _ c.judge-verdict.result c.judge-verdict.ensures.exact)

pub returns-clause-page : goal.returns-clause-page
returns-clause-page g c = record {
  line = c.in_ok-line.line.items;
  checked = record {
    verdict = c.judge-verdict.result;
    is = verdict_is (checked_case c.args.certified.now.program.image (meaning c.args.certified.now.program.declaration) (text_of c.args.certified.now.certificate))
        c.judge-verdict.result c.judge-verdict.ensures.exact c.judge-verdict.ensures.safe;
    line_is = c.in_ok-line.ensures;
    status_is = c.verdict_status-status.ensures;
  };
  has = record {
    before = c.in_ok-text.ensures.before;
    rest = c.in_ok-text.ensures.rest;
    page_is = search (rules, c.in_ok-text.ensures.page_is);
  };
}
