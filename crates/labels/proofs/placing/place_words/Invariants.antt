use Rattle.std.proofs.Common.{◌≡◌}
use Rattle.streams.specs.TextLeft.{words_left}
use Rattle.labels.specs.Lines.{placed_words, prefixed}
use Rattle.labels.proofs.placing.place_words.Given as goal

-- what is written with what the words left say is all
abbrev pub invariant-loop-word : goal.invariant-loop-word
invariant-loop-word g l =
    prefixed l.out.items (placed_words l.own.entries l.number (words_left l.rest)) ≡ prefixed l.fn.out.items (placed_words l.own.entries l.number (words_left l.words))
