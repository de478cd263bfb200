use Rattle.std.proofs.Common.{◌∙◌, ap}
use Rattle.wordset.specs.Lanes.{words}
use Rattle.wordset.specs.Words.{or_any}
use Rattle.facts.proofs.place.Place.with_byte.Goals as goal

pub returns : goal.returns
returns g c = c.or_any.ensures ∙ ap (λ m. or_any m (words c.put_words_known.new.place)) c.from_byte.ensures.same ∙ ap (or_any 255) c.put_words_known.ensures
