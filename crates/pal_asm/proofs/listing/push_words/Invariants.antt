use Rattle.std.proofs.Common.{◌≡◌, ◌++◌, length}
use Rattle.pal_asm.specs.Listings.{words_text}
use Rattle.pal_asm.specs.SourceInCode.{after_those, next_at}
use Rattle.pal_asm.proofs.listing.push_words.Given as goal

abbrev pub invariant-loop-rest : goal.invariant-loop-rest
invariant-loop-rest g l =
    (after_those l.place l.rest ≡ after_those l.place l.words)
    × (l.text.items ++ words_text (next_at l.place l.rest) ≡ l.fn.text.items ++ words_text (next_at l.place l.words))

abbrev pub decreases-loop-rest : goal.decreases-loop-rest
decreases-loop-rest g l = length l.rest
