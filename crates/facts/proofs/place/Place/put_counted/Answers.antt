use Rattle.std.proofs.Common.{◌∙◌, ap}
use Rattle.wordset.specs.Words.{Words, shifted}
use Rattle.domain.specs.Locations.{Cell}
use Rattle.domain.specs.FactInCode.{fact_in_code}
use Rattle.domain.specs.Narrowing.{words_known}
use Rattle.facts.specs.PlaceInCode.{place_in_code}
use Rattle.transfer.proofs.ComesLemmas.{counted_is}
use Rattle.facts.proofs.CountedLemmas.{as_many_chains}
use Rattle.domain.specs.Facts.{Fact}
use Rattle.facts.proofs.place.Place.put_counted.Goals as goal

pub returns-clause-fact : goal.returns-clause-fact
returns-clause-fact g c = counted_is (place_in_code c.args.self.now) c.args.cell (fact_in_code c.args.fact.now) c.take_counted.ensures.fact
    (c.shift.ensures ∙ ap (λ (s : Words). shifted s c.increment.result) c.put_words_known.ensures ∙ ap (shifted (words_known (place_in_code c.args.self.now) (fact_in_code c.args.fact.now) (Cell c.args.cell))) c.increment.ensures)

pub returns-clause-chains : goal.returns-clause-chains
returns-clause-chains g c = as_many_chains c.args.cell c.take_counted.new.self.chains.items c.args.fact.now.chains.items (ap (λ (f : Fact). f.chains) c.take_counted.ensures.fact)
