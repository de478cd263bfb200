use Rattle.std.proofs.Common.{◌≡◌, ◌++◌}
use Rattle.streams.specs.TextLeft.{words_left}
use Rattle.labels.specs.Located.{spaced_words}
use Rattle.labels.proofs.located.push_words.Given as goal

-- what is written with the words left is all
abbrev pub invariant-loop-word : goal.invariant-loop-word
invariant-loop-word g l = l.text.items ++ spaced_words (words_left l.rest) ≡ l.fn.text.items ++ spaced_words (words_left l.words)
