use Rattle.std.proofs.Common.{◌∙◌, sym}
use Rattle.transfer.specs.References.{words_in}
use Rattle.facts.proofs.place.Place.put_words_in.Goals as goal

pub returns-then-is_variable : goal.returns-then-is_variable
unfolding words_in
returns-then-is_variable g c = rw (sym c.is_variable.ensures ∙ c.if-is_variable.true) c.put_words_known.ensures

pub returns-then-is_own : goal.returns-then-is_own
unfolding words_in
returns-then-is_own g c = rw (sym c.is_variable.ensures ∙ c.if-is_variable.false, sym c.is_own.ensures ∙ c.if-is_own.true) c.put_own_words.ensures

pub returns-then-is_entry : goal.returns-then-is_entry
unfolding words_in
returns-then-is_entry g c = rw (sym c.is_variable.ensures ∙ c.if-is_variable.false, sym c.is_own.ensures ∙ c.if-is_own.false, sym c.is_entry.ensures ∙ c.if-is_entry.true) c.all.ensures

pub returns : goal.returns
unfolding words_in
returns g c = rw (sym c.is_variable.ensures ∙ c.if-is_variable.false, sym c.is_own.ensures ∙ c.if-is_own.false, sym c.is_entry.ensures ∙ c.if-is_entry.false, ← c.word_of.ensures.word) c.put_tape_word.ensures
