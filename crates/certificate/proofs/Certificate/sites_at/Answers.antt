use Rattle.std.proofs.Common.{◌∙◌, rules}
use Rattle.declaration.specs.DeclarationInCode.{meaning as declared}
use Rattle.certificate_lines.specs.CertificateInCode.{claims}
use Rattle.certificate.proofs.SumSitedLemmas.{nowhere_there, main_there, routine_there}
use Rattle.certificate.proofs.Certificate.sites_at.Goals as goal

pub returns-in_default : goal.returns-in_default
returns-in_default g c =
    c.empty.ensures ∙ nowhere_there (declared c.args.declaration.now) (claims c.args.self.now).sites c.args.at c.in_default.ensures.none

pub returns-in-Main : goal.returns-in-Main
returns-in-Main g c =
    c.empty-in-Main.ensures ∙ main_there (declared c.args.declaration.now) (claims c.args.self.now).sites c.args.at (rw c.in-Main.is at c.in-Some.ensures.only)

pub returns-in-Routine : goal.returns-in-Routine
returns-in-Routine g c =
    c.sites_of.ensures ∙
    routine_there (declared c.args.declaration.now) (claims c.args.self.now).sites c.args.at c.in-Routine.entry (search rules)
    (rw c.in-Routine.is at c.in-Some.ensures.found) (rw c.in-Routine.is at c.in-Some.ensures.only)
