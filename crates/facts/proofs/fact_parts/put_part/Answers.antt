use Rattle.std.proofs.Common.{ap, ◌∙◌}
use Rattle.wordset.specs.Words.{Words}
use Rattle.wordset.specs.Links.{links_of}
use Rattle.peripherals.specs.Loading.{image_of}
use Rattle.domain.specs.Facts.{Fact}
use Rattle.domain.specs.Narrowing.{narrowed}
use Rattle.domain.specs.FactInCode.{fact_in_code}
use Rattle.facts.proofs.fact_parts.put_part.Goals as goal

pub returns-clause-part : goal.returns-clause-part
returns-clause-part g c =
    c.narrow.ensures.fact ∙ ap (narrowed (image_of c.args.place.now.image.now))
    (c.set_link.ensures.fact ∙ ap (λ (k : Words). record (fact_in_code c.args.fact.now) { link = k }) c.one.ensures)

pub returns-clause-kept : goal.returns-clause-kept
returns-clause-kept g c =
    c.set_link-2.ensures.fact ∙ ap (λ (h : Fact). record h { link = links_of c.link-links.result }) c.set_link.ensures.fact
    ∙ ap (λ (k : Words). record (fact_in_code c.args.fact.now) { link = k }) c.link-links.ensures
