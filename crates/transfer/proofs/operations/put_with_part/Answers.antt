use Rattle.std.proofs.Common.{ap, ◌∙◌}
use Rattle.wordset.specs.Words.{Words, one}
use Rattle.wordset.specs.Lanes.{words}
use Rattle.domain.specs.Locations.{Ac}
use Rattle.domain.specs.Facts.{Fact}
use Rattle.domain.specs.Adding.{with_name}
use Rattle.domain.specs.FactInCode.{fact_in_code}
use Rattle.transfer.proofs.operations.put_with_part.Goals as goal

pub returns-clause-fact : goal.returns-clause-fact
returns-clause-fact g c =
    c.set_link.ensures.fact ∙ ap (λ (k : Words). record (fact_in_code c.set_name.new.self) { link = k }) c.one.ensures
    ∙ ap (λ (h : Fact). record h { link = one c.args.link })
    (c.set_name.ensures.fact ∙ ap (λ (h : Fact). with_name Ac (words c.args.part.now) h) c.copy_from.ensures.fact)
