use Rattle.std.proofs.Common.{sym, subst, ◌∙◌}
use Rattle.std.specs.Prelude.{IsTrue, ◌↔◌}
use Rattle.domain.specs.Facts.{Fact}
use Rattle.facts.specs.Entailment.{PartLands}
use Rattle.facts.specs.PlaceInCode.{place_in_code}
use Rattle.facts.proofs.BeginningLemmas.{one_link_begun}
use Rattle.facts.proofs.place.Place.starts_land_under.Goals as goal

pub returns : goal.returns
returns g c = subst (λ (f : Fact). IsTrue c.part_lands.result ↔ PartLands (place_in_code c.args.self.now) f (g.F.FactSource.facts c.args.among.now))
    (c.start_part-part.ensures ∙ sym (one_link_begun (place_in_code c.args.self.now) c.args.link)) c.part_lands.ensures.lands
