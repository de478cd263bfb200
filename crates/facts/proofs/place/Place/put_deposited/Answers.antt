use Rattle.std.proofs.Common.{◌≡◌, ◌∙◌, sym, true, false}
use Rattle.facts.specs.PlaceInCode.{place_in_code}
use Rattle.facts.proofs.place.Place.put_deposited.Goals as goal

pub returns-then-is_variable : goal.returns-then-is_variable
returns-then-is_variable g c =
    let var : (place_in_code c.args.self.now).declaration.variable c.args.cell ≡ true = sym c.is_variable.ensures ∙ c.if-is_variable.true in
    rw var c.put_stored_by.ensures

pub returns : goal.returns
returns g c =
    let fixed : (place_in_code c.args.self.now).declaration.variable c.args.cell ≡ false = sym c.is_variable.ensures ∙ c.if-is_variable.false in
    rw fixed c.put_moved.ensures
