use Rattle.std.proofs.Common.{◌≡◌, ◌⊎◌, Some}
use Rattle.declaration.specs.Declaration.{IsListed}
use Rattle.domain.specs.FactInCode.{fact_in_code}
use Rattle.facts.specs.PlaceInCode.{place_in_code, meaning_in}
use Rattle.facts.proofs.AskedLemmas.{over}
use Rattle.facts.proofs.AskingLemmas.{reads_unlisted}
use Rattle.facts.proofs.place.Place.reads_are_listed.Goals as goal

pub returns-then-not-reads_listed : goal.returns-then-not-reads_listed
returns-then-not-reads_listed g c = reads_unlisted (place_in_code c.args.self.now) (fact_in_code c.args.fact.now) (meaning_in (place_in_code c.args.self.now) c.args.at c.args.word) _ c.reads_listed.ensures c.if-not-reads_listed.true

pub returns : goal.returns
returns g c = over _ _ (λ a. IsListed (place_in_code c.args.self.now).declaration.reads a ⊎ ((place_in_code c.args.self.now).routine ≡ Some a)) c.put_reads.ensures c.are_listed.ensures
