use Rattle.std.proofs.Common.{ap, ◌∙◌}
use Rattle.wordset.specs.Words.{Words, images}
use Rattle.wordset.specs.Lanes.{words}
use Rattle.wordset.specs.Operate as said
use Rattle.domain.specs.Locations.{Ac}
use Rattle.domain.specs.Facts.{Fact, OfEquations}
use Rattle.domain.specs.Adding.{with_name}
use Rattle.domain.specs.FactInCode.{fact_in_code}
use Rattle.transfer.specs.Operations.{link_after, operated}
use Rattle.transfer.proofs.RowsLemmas.{images_ac, images_link}
use Rattle.transfer.proofs.operations.put_all_operated.Goals as goal

pub returns : goal.returns
returns g c =
    let f : Fact = fact_in_code c.args.fact.now in
    let w = c.args.word in
    let known : Words = words c.args.known.now in
    c.set_link.ensures.fact
    ∙ ap (λ (k : Words). record (fact_in_code c.put_accumulator.new.fact) { link = k })
    (c.map_operate-images.ensures.links ∙ ap (λ (k : Words). images (said.link_after w) known k) c.link.ensures ∙ images_link w known f.link)
    ∙ ap (λ (h : Fact). record h { link = images (link_after w) known f.link })
    (c.put_accumulator.ensures.fact ∙ ap (λ (h : Fact). with_name Ac (words c.map_operate-images.result.0) h) c.put_operated.ensures
    ∙ ap (λ (s : Words). with_name Ac s (operated OfEquations w f))
    (c.map_operate-images.ensures.words ∙ ap (λ (k : Words). images (said.accumulator_after w) known k) c.link.ensures ∙ images_ac w known f.link))
