-- What a fact says of the terms of a sum from a place on.
use Rattle.std.proofs.Common.{◌≡◌, ℕ, ◌+◌, ◌<◌, ◌≤◌, [], ◌∷◌, drop, length, refl, ap, ◌∙◌, arith}
use Rattle.std.proofs.Math.ListN.{drop_of_length-le}
use Rattle.std.proofs.lemmas.List.{drop_more}
use Rattle.wordset.specs.Words.{one, meet, sums}
use Rattle.processor.specs.Runs.{Image}
use Rattle.domain.specs.Terms.{Sum, Summand}
use Rattle.domain.specs.Facts.{Fact}
use Rattle.domain.specs.Adding.{times, set_of_sum}
use Rattle.domain.specs.Knowing.{words_of_term, said_of}
use Rattle.domain.specs.InCode.{summand_at}

none_said : (image : Image) (f : Fact) (xs : Sum) → xs ≡ [] → one 0 ≡ said_of image f xs
unfolding said_of
none_said image f xs e = rw e refl

-- Of no terms.
pub said_none : (image : Image) (f : Fact) (xs : Sum) (i : ℕ) → length xs ≤ i → one 0 ≡ said_of image f (drop i xs)
said_none image f xs i past = none_said image f (drop i xs) (drop_of_length-le xs {i = i} past)

one_said : (image : Image) (f : Fact) (xs : Sum) (x : Summand) → xs ≡ x ∷ [] → times x.coefficient (words_of_term image f x.term) ≡ said_of image f xs
unfolding said_of
one_said image f xs x e = rw e refl

-- Of the last term.
pub said_one : (image : Image) (f : Fact) (xs : Sum) (i : ℕ) → i + 1 ≡ length xs →
    times (summand_at xs i).coefficient (words_of_term image f (summand_at xs i).term) ≡ said_of image f (drop i xs)
said_one image f xs i last =
    let inside : i < length xs = omega arith in
    let past : length xs ≤ i + 1 = omega arith in
    one_said image f (drop i xs) (summand_at xs i) (drop_more xs i _ inside ∙ ap (λ (r : Sum). summand_at xs i ∷ r) (drop_of_length-le xs {i = i + 1} past))

more_said : (image : Image) (f : Fact) (xs zs : Sum) (x y : Summand) (ys : Sum) → xs ≡ x ∷ zs → zs ≡ y ∷ ys →
    meet (set_of_sum f xs) (sums (times x.coefficient (words_of_term image f x.term)) (said_of image f zs)) ≡ said_of image f xs
unfolding said_of
more_said image f xs zs x y ys e g = rw (e, g) refl

-- Of more terms.
pub said_more : (image : Image) (f : Fact) (xs : Sum) (i : ℕ) → i + 1 < length xs →
    meet (set_of_sum f (drop i xs)) (sums (times (summand_at xs i).coefficient (words_of_term image f (summand_at xs i).term)) (said_of image f (drop (i + 1) xs)))
    ≡ said_of image f (drop i xs)
said_more image f xs i more =
    let inside : i < length xs = omega arith in
    more_said image f (drop i xs) (drop (i + 1) xs) (summand_at xs i) (summand_at xs (i + 1)) (drop (i + 1 + 1) xs) (drop_more xs i _ inside) (drop_more xs (i + 1) _ more)
