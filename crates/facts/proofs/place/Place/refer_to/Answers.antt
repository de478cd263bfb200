use Rattle.std.proofs.Common.{◌∙◌, sym}
use Rattle.transfer.proofs.ComesLemmas.{none_after}
use Rattle.facts.proofs.place.Place.refer_to.Goals as goal

pub returns-in-And : goal.returns-in-And
returns-in-And g c = λ f h e. rw (sym c.of.ensures.code ∙ c.in-And.is, ← e, ← h) (none_after c.combine.ensures c.clear.ensures)

pub returns-in-Tad : goal.returns-in-Tad
returns-in-Tad g c = λ f h e. rw (sym c.of.ensures.code ∙ c.in-Tad.is, ← e, ← h, ← c.refers_indirectly-indirect.ensures, ← c.target-named.ensures) c.add.ensures

pub returns-in-Isz : goal.returns-in-Isz
returns-in-Isz g c = λ f h e. rw (sym c.of.ensures.code ∙ c.in-Isz.is, ← e, ← h) c.count.ensures

pub returns-in-Dca : goal.returns-in-Dca
returns-in-Dca g c = λ f h e. rw (sym c.of.ensures.code ∙ c.in-Dca.is, ← e, ← h) (none_after c.deposit.ensures c.clear.ensures)

pub returns-in-Jms : goal.returns-in-Jms
returns-in-Jms g c = λ f h e. rw (sym c.of.ensures.code ∙ c.in-Jms.is, ← e, ← h) (none_after c.call.ensures c.clear.ensures)

pub returns-in-Jmp : goal.returns-in-Jmp
returns-in-Jmp g c = λ f h e. rw (sym c.of.ensures.code ∙ c.in-Jmp.is, ← e, ← h, ← c.refers_indirectly-indirect.ensures, ← c.target-named.ensures) (none_after c.jump.ensures c.clear.ensures)
