use Rattle.std.proofs.Common.{◌≡◌, subst}
use Rattle.wordset.specs.Words.{one}
use Rattle.instruct.specs.Instructions.{operation_of}
use Rattle.facts.specs.Conditions.{may_write}
use Rattle.facts.specs.PlaceInCode.{place_in_code}
use Rattle.facts.proofs.AskingLemmas.{refers_in, stores_one}
use Rattle.facts.proofs.place.Place.stored_cell.Goals as goal

pub returns : goal.returns
returns g c = λ f. subst (λ m. may_write (place_in_code c.args.self.now) f m ≡ one c.target.result)
    (refers_in (place_in_code c.args.self.now) c.args.at c.args.word _ _ ((c.is_reference.ensures c.args.at).0 c.if-not-is_reference.false) c.refers_indirectly.ensures c.target.ensures)
    (stores_one (place_in_code c.args.self.now) f (operation_of c.args.word) c.target.result c.refers_indirectly.result c.stores.result c.stores.ensures c.if-not-stores.false c.if-refers_indirectly.false)
