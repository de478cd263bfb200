use Rattle.std.proofs.Common.{◌∙◌, sym}
use Rattle.transfer.proofs.ComesLemmas.{none_after}
use Rattle.facts.proofs.place.Place.count.Goals as goal

pub returns-in-None : goal.returns-in-None
returns-in-None g c = rw (sym c.requires.single ∙ c.in-None.is) c.count_several.ensures

pub returns-then-is_variable : goal.returns-then-is_variable
returns-then-is_variable g c = rw (sym c.requires.single ∙ c.in-Some.is) c.count_one.ensures

pub returns-else-is_variable : goal.returns-else-is_variable
returns-else-is_variable g c = rw (sym c.requires.single ∙ c.in-Some.is) (none_after c.count_own.ensures c.clear.ensures)
