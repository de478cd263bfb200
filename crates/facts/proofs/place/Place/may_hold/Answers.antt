use Rattle.std.proofs.Common.{◌∙◌, ap}
use Rattle.wordset.specs.Words.{without, has_some}
use Rattle.wordset.specs.Lanes.{words}
use Rattle.facts.proofs.place.Place.may_hold.Goals as goal

pub returns-then-last : goal.returns-then-last
returns-then-last g c = rw (c.if-last.true, ← c.put_words_known.ensures) (c.contains.ensures ∙ ap (words c.put_words_known.new.place) c.complement.ensures)

pub returns : goal.returns
returns g c = rw (c.if-last.false, ← c.put_words_known.ensures) (c.has_some.ensures ∙ ap has_some (c.remove.ensures ∙ ap (λ n. without n (words c.put_words_known.new.place)) c.complement-2.ensures))
