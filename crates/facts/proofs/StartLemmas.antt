-- What the tape holds at a start.
use Rattle.std.proofs.Common.{◌≡◌, ℕ, ◌<◌, Option, Some, None, List, refl, subst}
use Rattle.std.specs.Prelude.{nat_lt}
use Rattle.std.specs.Option.{ForSome}
use Rattle.std.proofs.lemmas.Bool.{cond_both}
use Rattle.bin_tape.specs.Image.{word_at, HoldsWords}
use Rattle.peripherals.specs.Loading.{image_of}
use Rattle.facts.specs.TapeWords.{AreTapeWords}

pub tape_words : (cells : List (Option ℕ)) → HoldsWords cells → AreTapeWords (image_of cells)
tape_words cells h a w = cond_both (nat_lt a 4096) (word_at cells a) None (λ o. o ≡ Some w → w < 4096) (λ q. some (word_at cells a) (h.words a)) (λ q e. absurd (cc))
  where
    some : (o : Option ℕ) → ForSome o (λ v. v < 4096) → o ≡ Some w → w < 4096
    some None f e = absurd (cc)
    some (Some x) f e = (let q : x ≡ w = cc in let g : x < 4096 = f x refl in subst (λ y. y < 4096) q g)
