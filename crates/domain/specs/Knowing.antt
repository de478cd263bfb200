-- What a fact says of a sum of terms.
use Rattle.std.specs.Prelude.{◌&&◌, [], ◌∷◌}
use Rattle.wordset.specs.Words.{Words, one, some_below, shifted, sums, meet}
use Rattle.processor.specs.Runs.{Image}
use Rattle.domain.specs.Locations.{Cell, tape_word}
use Rattle.domain.specs.Terms.{Term, Holding, Behind, Sum}
use Rattle.domain.specs.Facts.{Fact}
use Rattle.domain.specs.Adding.{times, set_of_sum}

-- The words that some cells may have held at the start: the tape's word, or any word if the tape has none.
abbrev pub at_start : Image → Words → Words
at_start image cells v = some_below 4096 (λ a. cells a && tape_word (image a) v)

-- The words that a term may be: those of a name's set; or what the cells to which a pointer may point held at the start.
abbrev pub words_of_term : Image → Fact → Term → Words
words_of_term image f (Holding n) = f.set n
words_of_term image f (Behind x k) = at_start image (shifted (f.set (Cell x)) k)

-- What a fact says of a sum, K: a sum of no terms is 0. One term with its coefficient is a product of one of the term's
-- words. More terms are what the fact's own relation says of them, and also the first term plus the others.
unfoldable pub said_of : Image → Fact → Sum → Words
said_of image f [] = one 0
said_of image f (s ∷ []) = times s.coefficient (words_of_term image f s.term)
said_of image f (s ∷ t ∷ ts) =
    meet (set_of_sum f (s ∷ t ∷ ts)) (sums (times s.coefficient (words_of_term image f s.term)) (said_of image f (t ∷ ts)))
