use Rattle.std.proofs.Common.{refl}
use Rattle.facts.proofs.place.Place.says_within.Goals as goal

pub returns-then-tells_within : goal.returns-then-tells_within
returns-then-tells_within g c = (λ t. c.tells_within.ensures c.if-tells_within.true, λ w. refl)

pub returns : goal.returns
returns g c = rw (← c.put_said_of.ensures) c.has_all.ensures
