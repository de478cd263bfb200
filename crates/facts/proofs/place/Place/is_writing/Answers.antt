use Rattle.std.proofs.Common.{◌≡◌, subst, false}
use Rattle.instruct.specs.Instructions.{operation_of}
use Rattle.facts.specs.Conditions.{may_write}
use Rattle.facts.specs.PlaceInCode.{place_in_code}
use Rattle.facts.proofs.AskedLemmas.{no_reference}
use Rattle.facts.proofs.AskingLemmas.{refers_in, writes_none, no_store}
use Rattle.facts.proofs.place.Place.is_writing.Goals as goal

pub returns-then-not-is_reference : goal.returns-then-not-is_reference
returns-then-not-is_reference g c = λ e f a. writes_none (place_in_code c.args.self.now) f _ (no_reference c.if-not-is_reference.true (c.is_reference.ensures c.args.at)) a

pub returns-else-stores : goal.returns-else-stores
returns-else-stores g c = λ h f a. subst (λ m. may_write (place_in_code c.args.self.now) f m a ≡ false)
    (refers_in (place_in_code c.args.self.now) c.args.at c.args.word _ _ ((c.is_reference.ensures c.args.at).0 c.if-not-is_reference.false) c.refers_indirectly.ensures c.target.ensures)
    (no_store (place_in_code c.args.self.now) f (operation_of c.args.word) _ _ _ _ c.stores.ensures c.steps_pointer.ensures c.if-stores.false h a)
