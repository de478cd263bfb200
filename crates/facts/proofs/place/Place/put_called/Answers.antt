use Rattle.std.proofs.Common.{◌≡◌, subst, refl}
use Rattle.wordset.specs.Lanes.{words}
use Rattle.instruct.specs.Instructions.{operation_of}
use Rattle.domain.specs.FactInCode.{fact_in_code}
use Rattle.facts.specs.PlaceInCode.{place_in_code}
use Rattle.facts.proofs.AskedLemmas.{no_reference, no_words}
use Rattle.facts.specs.Conditions.{called}
use Rattle.facts.proofs.AskingLemmas.{refers_in, calls_nothing, not_called, calls_targets}
use Rattle.facts.proofs.place.Place.put_called.Goals as goal

pub returns-then-not-is_reference : goal.returns-then-not-is_reference
returns-then-not-is_reference g c = no_words _ _ c.empty.ensures (calls_nothing (place_in_code c.args.self.now) (fact_in_code c.args.fact.now) _ (no_reference c.if-not-is_reference.true (c.is_reference.ensures c.args.at)))

pub returns-then-not-is_jms : goal.returns-then-not-is_jms
returns-then-not-is_jms g c =
    subst (λ m. words c.empty-then-not-is_jms.result ≡ called (place_in_code c.args.self.now) (fact_in_code c.args.fact.now) m)
    (refers_in (place_in_code c.args.self.now) c.args.at c.args.word _ _ ((c.is_reference.ensures c.args.at).0 c.if-not-is_reference.false) refl refl)
    (no_words _ _ c.empty-then-not-is_jms.ensures (not_called (place_in_code c.args.self.now) (fact_in_code c.args.fact.now) (operation_of c.args.word) _ _ _ c.is_jms.ensures c.if-not-is_jms.true))

pub returns : goal.returns
returns g c =
    subst (λ m. words c.put_targets.new.place ≡ called (place_in_code c.args.self.now) (fact_in_code c.args.fact.now) m)
    (refers_in (place_in_code c.args.self.now) c.args.at c.args.word _ _ ((c.is_reference.ensures c.args.at).0 c.if-not-is_reference.false) c.refers_indirectly.ensures c.target.ensures)
    (calls_targets _ (place_in_code c.args.self.now) (fact_in_code c.args.fact.now) (operation_of c.args.word) _ _ _ c.is_jms.ensures c.if-not-is_jms.false c.put_targets.ensures)
