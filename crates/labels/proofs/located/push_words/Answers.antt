use Rattle.std.proofs.Common.{◌∙◌}
use Rattle.streams.specs.TextLeft.{words_left}
use Rattle.labels.proofs.Spaces.{no_word_left, word_on}
use Rattle.labels.proofs.located.push_words.Goals as goal

pub loop-word-preserved : goal.loop-word-preserved
loop-word-preserved g c =
    word_on c.loop-word.text.items c.push.new.self.items c.extend_from_slice.new.self.items c.in-Some.word.now (words_left c.loop-word.rest) (words_left c.next.new.self)
    c.in-Some.ensures.steps c.in_ok-push.ensures.items c.in_ok-extend_from_slice.ensures.items ∙ c.loop-word.invariant

pub returns : goal.returns
returns g c = no_word_left c.loop-word.text.items (words_left c.loop-word.rest) (c.in_default.ensures.steps).0 ∙ c.loop-word.invariant
