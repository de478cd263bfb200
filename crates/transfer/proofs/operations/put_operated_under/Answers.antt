use Rattle.std.proofs.Common.{ap, ◌∙◌}
use Rattle.wordset.specs.Words.{Words, one}
use Rattle.wordset.specs.Lanes.{words}
use Rattle.wordset.specs.Links.{links_of}
use Rattle.domain.specs.Locations.{Ac}
use Rattle.domain.specs.Facts.{Fact, OfSums}
use Rattle.domain.specs.Adding.{with_name}
use Rattle.domain.specs.FactInCode.{fact_in_code}
use Rattle.transfer.specs.Operations.{operated, images_under}
use Rattle.transfer.proofs.operations.put_operated_under.Goals as goal

pub returns : goal.returns
returns g c =
    let f : Fact = fact_in_code c.args.fact.now in
    c.set_link.ensures.fact ∙ ap (λ (k : Words). record (fact_in_code c.put_accumulator.new.fact) { link = k }) c.one.ensures
    ∙ ap (λ (h : Fact). record h { link = one c.args.link })
    (c.put_accumulator.ensures.fact ∙ ap (λ (h : Fact). with_name Ac (words c.images_under.result) h) c.put_operated.ensures
    ∙ ap (λ (s : Words). with_name Ac s (operated OfSums c.args.word f))
    (c.images_under.ensures ∙ ap (λ (a : Words). images_under c.args.word c.args.link a (links_of c.link.result)) c.accumulator.ensures
    ∙ ap (λ (k : Words). images_under c.args.word c.args.link (f.set Ac) k) c.link.ensures))
