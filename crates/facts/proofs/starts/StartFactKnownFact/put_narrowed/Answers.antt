use Rattle.std.proofs.Common.{sym, ap, ◌∙◌}
use Rattle.peripherals.specs.Loading.{image_of}
use Rattle.domain.specs.LocationsInCode.{location_of}
use Rattle.domain.specs.Facts.{Fact}
use Rattle.facts.proofs.BeginningLemmas.{narrowed_plain}
use Rattle.facts.proofs.starts.StartFactKnownFact.put_narrowed.Goals as goal

pub returns : goal.returns
returns c = c.put_set_of.ensures ∙ sym (ap (λ (f : Fact). f.set (location_of c.args.name.now)) (narrowed_plain (image_of c.args._image.now) _ _ _ _ _))
