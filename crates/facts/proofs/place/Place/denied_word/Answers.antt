use Rattle.std.proofs.Common.{ap, subst, ◌∙◌}
use Rattle.wordset.specs.Words.{SameWords, Words, difference}
use Rattle.wordset.specs.Lanes.{words}
use Rattle.declaration.specs.DeclarationInCode.{assertion_of}
use Rattle.declaration.specs.declared.Subject.{Subject}
use Rattle.domain.specs.FactInCode.{fact_in_code}
use Rattle.facts.specs.Conditions.{may_be}
use Rattle.facts.specs.PlaceInCode.{place_in_code}
use Rattle.facts.proofs.HeldLemmas.{denied_by, none_by}
use Rattle.facts.proofs.place.Place.denied_word.Goals as goal

pub returns-clause-denied : goal.returns-clause-denied
returns-clause-denied g c =
    let pl = place_in_code c.args.self.now in
    let f = fact_in_code c.args.fact.now in
    let possible = words c.put_may_be.new.place in
    denied_by pl f (assertion_of c.args.assertion.now) possible (words c.minus.result) c.first_from.result
    (subst (λ (s : Subject). SameWords possible (may_be pl f s)) c.subject.ensures c.put_may_be.ensures)
    (c.minus.ensures ∙ ap (λ (s : Words). difference possible s) c.words.ensures) c.first_from.ensures

pub returns-clause-none : goal.returns-clause-none
returns-clause-none g c =
    let pl = place_in_code c.args.self.now in
    let f = fact_in_code c.args.fact.now in
    let possible = words c.put_may_be.new.place in
    none_by pl f (assertion_of c.args.assertion.now) possible (words c.minus.result) c.first_from.result
    (subst (λ (s : Subject). SameWords possible (may_be pl f s)) c.subject.ensures c.put_may_be.ensures)
    (c.minus.ensures ∙ ap (λ (s : Words). difference possible s) c.words.ensures) c.first_from.ensures
