use Rattle.std.proofs.Common.{arith, ◌≡◌, ◌⊎◌, true}
use Rattle.domain.specs.FactInCode.{fact_in_code}
use Rattle.facts.specs.PlaceInCode.{place_in_code}
use Rattle.facts.proofs.AskedLemmas.{over, over_none, over_one}
use Rattle.facts.proofs.place.Place.writes_are_declared.Goals as goal

pub returns-in-Some : goal.returns-in-Some
returns-in-Some g c = over_one _ c.in-Some.cell (λ a. ((place_in_code c.args.self.now).declaration.variable a ≡ true) ⊎ ((place_in_code c.args.self.now).declaration.entry a ≡ true)) (c.in-Some.ensures (fact_in_code c.args.fact.now)) (omega (arith, c.index-index.ensures.same, c.index-index.ensures.small)) c.is_declared.ensures

pub returns-then-not-is_writing : goal.returns-then-not-is_writing
returns-then-not-is_writing g c = over_none _ _ (c.is_writing.ensures c.if-not-is_writing.true (fact_in_code c.args.fact.now))

pub returns : goal.returns
returns g c = over _ _ (λ a. ((place_in_code c.args.self.now).declaration.variable a ≡ true) ⊎ ((place_in_code c.args.self.now).declaration.entry a ≡ true)) c.put_writes.ensures c.are_declared.ensures
