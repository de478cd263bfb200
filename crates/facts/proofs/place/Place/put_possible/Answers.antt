use Rattle.std.proofs.Common.{◌∙◌, sym}
use Rattle.transfer.specs.References.{possible}
use Rattle.facts.proofs.place.Place.put_possible.Goals as goal

pub returns-then-is_variable : goal.returns-then-is_variable
unfolding possible
returns-then-is_variable g c = rw (sym c.is_variable.ensures ∙ c.if-is_variable.true) c.put_words_known.ensures

pub returns : goal.returns
unfolding possible
returns g c = rw (sym c.is_variable.ensures ∙ c.if-is_variable.false, ← c.word_of.ensures.word) c.put_tape_word.ensures
