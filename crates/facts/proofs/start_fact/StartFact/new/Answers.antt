use Rattle.std.proofs.Common.{◌∙◌, ap}
use Rattle.wordset.specs.Words.{Words}
use Rattle.wordset.specs.Links.{links_of}
use Rattle.peripherals.specs.Loading.{image_of}
use Rattle.domain.specs.Locations.{Ac}
use Rattle.domain.specs.Adding.{with_name}
use Rattle.facts.proofs.BeginningLemmas.{begun, any_ac}
use Rattle.facts.proofs.start_fact.StartFact.new.Goals as goal

pub returns : goal.returns
returns c =
    c.with_name.ensures ∙ ap (λ (s : Words). with_name Ac s (begun (image_of c.args.image.now) (links_of c.args.links))) c.all.ensures
    ∙ any_ac (image_of c.args.image.now) (links_of c.args.links)
