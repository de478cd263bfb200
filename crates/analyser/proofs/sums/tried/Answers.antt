use Rattle.std.proofs.Common.{◌≡◌, rules, subst, sym}
use Rattle.std.proofs.lemmas.Result.{IfOk-weaker}
use Rattle.certificate_lines.specs.CertificateInCode.{meaning}
use Rattle.certificate.specs.Exact.{AreLines}
use Rattle.analyser.proofs.sums.tried.Goals as goal

pub returns-in-Ok : goal.returns-in-Ok
returns-in-Ok g c = record {
  lines = IfOk-weaker c.accepted.result (λ made. made ≡ c.in-Ok.certificate) (λ made. AreLines (meaning made))
      (λ made same. subst (λ x. AreLines (meaning x)) (sym same) c.in-Ok.ensures.lines) c.accepted.ensures.same;
  version_is = search rules;
  accepted = search rules;
  limit = search rules;
  rises = search rules;
  within = search rules;
  spent = search rules;
}
