use Rattle.std.proofs.Common.{◌∙◌, ◌++◌, ◌∷◌, [], ap}
use Rattle.std.proofs.lemmas.Bool.{false≢true}
use Rattle.domain.specs.Terms.{Sum}
use Rattle.domain.specs.Brief.{brief_words}
use Rattle.certificate_lines.specs.Lines.{SumIs}
use Rattle.certificate_lines.specs.Packed.{said_lines}
use Rattle.certificate_lines.proofs.MakerLemmas.{on_ok}
use Rattle.certificate_lines.proofs.lines.push_relation.Goals as goal

pub returns-in-Some-clause-added : goal.returns-in-Some-clause-added
returns-in-Some-clause-added g c =
    on_ok c.claim.result _ _ (λ e. e ∙ ap (λ (s : Sum). said_lines c.args.lines.now ++ SumIs (record { sum = s; set = brief_words c.args.relation.now.set }) ∷ [])
    (c.in-Some.ensures.same c.requires)) c.claim.ensures.added

pub returns-in-None-clause-added : goal.returns-in-None-clause-added
returns-in-None-clause-added g c = absurd (false≢true (c.in-None.ensures.kept c.requires))
