use Rattle.certificate.proofs.SumEndLemmas.{are_lines}
use Rattle.certificate.proofs.Certificate.is_certificate.Goals as goal

pub returns : goal.returns
returns g c = rw (← c.self.view_is) (are_lines c.self.inside.version c.self.inside.kept c.self.invariant)
