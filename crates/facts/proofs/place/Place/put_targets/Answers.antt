use Rattle.std.proofs.Common.{◌∙◌, ap, sym}
use Rattle.wordset.specs.Words.{Words, shifted}
use Rattle.domain.specs.Locations.{Cell}
use Rattle.domain.specs.FactInCode.{fact_in_code}
use Rattle.domain.specs.Narrowing.{words_known}
use Rattle.facts.specs.PlaceInCode.{place_in_code}
use Rattle.facts.proofs.OperandLemmas.{counted_here}
use Rattle.facts.proofs.place.Place.put_targets.Goals as goal

pub returns-then-steps_pointer : goal.returns-then-steps_pointer
returns-then-steps_pointer g c = rw (sym c.steps_pointer.ensures ∙ c.if-steps_pointer.true)
    (c.shift.ensures ∙ ap (λ (s : Words). shifted s c.increment.result) c.put_words_known.ensures
    ∙ ap (shifted (words_known (place_in_code c.args.self.now) (fact_in_code c.args.fact.now) (Cell c.args.named))) c.increment.ensures
    ∙ sym (counted_here (place_in_code c.args.self.now) c.args.named (fact_in_code c.args.fact.now)))

pub returns-then-indirect : goal.returns-then-indirect
returns-then-indirect g c = rw (sym c.steps_pointer.ensures ∙ c.if-steps_pointer.false, c.if-indirect.true) c.put_words_in.ensures

pub returns : goal.returns
returns g c = rw (sym c.steps_pointer.ensures ∙ c.if-steps_pointer.false, c.if-indirect.false) c.put_one.ensures
