use Rattle.certificate_lines.specs.CertificateInCode.{claims}
use Rattle.analyser.proofs.DraftLemmas.{has_exit}
use Rattle.analyser.proofs.draft.has_exit.Goals as goal

pub returns-in-Some : goal.returns-in-Some
returns-in-Some g c = λ yes. has_exit (claims c.args.draft.now) c.args.entry c.in-Some.field-0 c.in-Some.ensures
