use Rattle.std.proofs.Common.{ap, ◌∙◌}
use Rattle.wordset.specs.Words.{Words, meet}
use Rattle.wordset.specs.Lanes.{words}
use Rattle.peripherals.specs.Loading.{image_of}
use Rattle.domain.specs.LocationsInCode.{location_of}
use Rattle.domain.specs.Facts.{Fact}
use Rattle.domain.specs.Adding.{with_name}
use Rattle.domain.specs.Narrowing.{narrowed}
use Rattle.domain.specs.FactInCode.{fact_in_code}
use Rattle.facts.proofs.fact_parts.put_met.Goals as goal

pub returns : goal.returns
returns g c =
    let f : Fact = fact_in_code c.args.part.now in
    let n = location_of c.args.name.now in
    c.narrow.ensures.fact ∙ ap (narrowed (image_of c.args.place.now.image.now))
    (c.set_name.ensures.fact ∙ ap (λ (h : Fact). with_name n (words c.meet.result) h) c.copy_from.ensures.fact
    ∙ ap (λ (s : Words). with_name n s f) (c.meet.ensures ∙ ap (λ (s : Words). meet s (words c.put_set_of-2.new.place)) c.put_set_of.ensures ∙ ap (λ (s : Words). meet (f.set n) s) c.put_set_of-2.ensures))
