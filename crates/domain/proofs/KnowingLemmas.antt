-- What a fact says of a sum is so.
use Rattle.std.proofs.Common.{◌≡◌, ℕ, ◌*◌, ◌%◌, ◌<◌, true, ◌&&◌, Option, Some, None, [], ◌∷◌, refl, sym, ◌∙◌, ap, arith}
use Rattle.std.proofs.lemmas.Bool.{and_from, eq-eqb, lt-ltb}
use Rattle.wordset.specs.Words.{plus, shifted, sums}
use Rattle.wordset.proofs.Tests.{some_from}
use Rattle.processor.specs.Cells.{Cells}
use Rattle.processor.specs.Runs.{Image}
use Rattle.domain.specs.Locations.{Cell, Values, tape_word}
use Rattle.domain.specs.Terms.{Term, Holding, Behind, Sum, term_value, sum_value}
use Rattle.domain.specs.Facts.{Fact, Holds}
use Rattle.domain.specs.Adding.{times}
use Rattle.domain.specs.Knowing.{words_of_term, said_of}
use Rattle.domain.specs.Laws.{IsBegun, AreValues, SaidIsSo}
use Rattle.domain.proofs.Numbers.{plus_lt, plus_first, shifted_in, sums_in, times_in}
use Rattle.domain.proofs.SumLemmas.{val_lt}
use Rattle.domain.proofs.AddingLemmas.{term_lt, given_in}

module _ (image : Image) (start : Cells) (begun : IsBegun image start) (v : Values) (vw : AreValues v) where
  -- the word of the start is the tape's, where the tape has one
  pub tape_in : (a : ℕ) → tape_word (image a) (start a) ≡ true
  tape_in a = go (image a) refl
    where
      go : (o : Option ℕ) → image a ≡ o → tape_word o (start a) ≡ true
      go None e = lt-ltb (start a) 4096 (begun.words a)
      go (Some w) e = eq-eqb (start a) w (begun.loaded a w e)

  pub term_in : (f : Fact) (link : ℕ) (t : Term) → Holds f v start link → words_of_term image f t (term_value v start t) ≡ true
  term_in f link (Holding n) h = h.sets n
  term_in f link (Behind x k) h =
      some_from 4096 (λ a. shifted (f.set (Cell x)) k a && tape_word (image a) (start (plus (v (Cell x)) k))) (plus (v (Cell x)) k) (plus_lt (v (Cell x)) k)
      (and_from _ _ (shifted_in (f.set (Cell x)) k (v (Cell x)) (vw (Cell x)) (h.sets (Cell x))) (tape_in (plus (v (Cell x)) k)))

  -- one term with its coefficient
  product_in : (f : Fact) (link c : ℕ) (t : Term) → Holds f v start link → times c (words_of_term image f t) (c * term_value v start t % 4096) ≡ true
  product_in f link c t h = times_in c (words_of_term image f t) (term_value v start t) (term_lt v start begun.words vw t) (term_in f link t h)

  pub said_in : (f : Fact) (link : ℕ) (sum : Sum) → Holds f v start link → said_of image f sum (sum_value v start sum) ≡ true
  unfolding said_of
  said_in f link [] h = refl
  said_in f link (s ∷ []) h = ap (times s.coefficient (words_of_term image f s.term)) (alone (s.coefficient * term_value v start s.term)) ∙ product_in f link s.coefficient s.term h
    where
      alone : (x : ℕ) → plus x 0 ≡ x % 4096
      alone x = omega arith
  said_in f link (s ∷ t ∷ ts) h =
      and_from _ _ (given_in v start begun.words vw f link (s ∷ t ∷ ts) h)
      (ap (sums (times s.coefficient (words_of_term image f s.term)) (said_of image f (t ∷ ts))) (sym (plus_first (s.coefficient * term_value v start s.term) (sum_value v start (t ∷ ts)))) ∙
      sums_in (times s.coefficient (words_of_term image f s.term)) (said_of image f (t ∷ ts)) (s.coefficient * term_value v start s.term % 4096) (sum_value v start (t ∷ ts))
      (mod_lt (s.coefficient * term_value v start s.term)) (val_lt v start (t ∷ ts)) (product_in f link s.coefficient s.term h) (said_in f link (t ∷ ts) h))
    where
      mod_lt : (x : ℕ) → x % 4096 < 4096
      mod_lt x = omega arith

pub said_is_so : SaidIsSo
said_is_so image start f v link sum begun vw h = said_in image start begun v vw f link sum h
