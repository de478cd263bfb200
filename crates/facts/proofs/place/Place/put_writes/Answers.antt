use Rattle.std.proofs.Common.{◌≡◌, subst}
use Rattle.wordset.specs.Lanes.{words}
use Rattle.instruct.specs.Instructions.{operation_of}
use Rattle.domain.specs.FactInCode.{fact_in_code}
use Rattle.facts.specs.PlaceInCode.{place_in_code}
use Rattle.facts.proofs.AskedLemmas.{no_reference, no_words}
use Rattle.facts.specs.Conditions.{may_write}
use Rattle.facts.proofs.AskingLemmas.{refers_in, writes_none, writes_pointer, writes_both}
use Rattle.facts.proofs.place.Place.put_writes.Goals as goal

pub returns-then-not-is_reference : goal.returns-then-not-is_reference
returns-then-not-is_reference g c = no_words _ _ c.empty.ensures (writes_none (place_in_code c.args.self.now) (fact_in_code c.args.fact.now) _ (no_reference c.if-not-is_reference.true (c.is_reference.ensures c.args.at)))

pub returns-then-not-stores : goal.returns-then-not-stores
returns-then-not-stores g c =
    subst (λ m. words c.named_if-pointer.result ≡ may_write (place_in_code c.args.self.now) (fact_in_code c.args.fact.now) m)
    (refers_in (place_in_code c.args.self.now) c.args.at c.args.word _ _ ((c.is_reference.ensures c.args.at).0 c.if-not-is_reference.false) c.refers_indirectly-indirect.ensures c.target-named.ensures)
    (writes_pointer _ (place_in_code c.args.self.now) (fact_in_code c.args.fact.now) (operation_of c.args.word) _ _ _ _ c.stores.ensures c.if-not-stores.true c.steps_pointer.ensures c.named_if-pointer.ensures)

pub returns : goal.returns
returns g c =
    subst (λ m. words c.union.result ≡ may_write (place_in_code c.args.self.now) (fact_in_code c.args.fact.now) m)
    (refers_in (place_in_code c.args.self.now) c.args.at c.args.word _ _ ((c.is_reference.ensures c.args.at).0 c.if-not-is_reference.false) c.refers_indirectly-indirect.ensures c.target-named.ensures)
    (writes_both _ _ _ (place_in_code c.args.self.now) (fact_in_code c.args.fact.now) (operation_of c.args.word) _ _ _ _ c.stores.ensures c.if-not-stores.false c.steps_pointer.ensures c.union.ensures c.named_if-pointer.ensures c.put_targets.ensures)
