use Rattle.std.proofs.Common.{subst}
use Rattle.std.specs.Prelude.{IsTrue, ◌↔◌}
use Rattle.domain.specs.Facts.{Fact}
use Rattle.facts.specs.Entailment.{EntailsOne}
use Rattle.facts.specs.PlaceInCode.{place_in_code}
use Rattle.facts.proofs.starts.StartPartFactPart.entails_one.Goals as goal

pub returns : goal.returns
returns g c = subst (λ (f : Fact). IsTrue c.entails_one.result ↔ EntailsOne (place_in_code c.args.place.now) f (g.F.FactSource.facts c.args.among.now)) c.new.ensures c.entails_one.ensures
