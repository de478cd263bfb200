-- A sum keeps its word, however it is collected, arranged and spelled.
use Rattle.std.proofs.Common.{◌≡◌, ℕ, ◌*◌, ◌%◌, ◌<◌, ◌==◌, Bool, true, false, ◌&&◌, Option, Some, None, [], ◌∷◌, ◌++◌, refl, sym, ◌∙◌, ap, arith, lit<}
use Rattle.std.specs.Prelude.{if◌then◌else◌, not, filter}
use Rattle.std.proofs.lemmas.Bool.{and_parts, cond_both, eqb-true, false≢true}
use Rattle.wordset.specs.Words.{plus}
use Rattle.processor.specs.Cells.{Cells}
use Rattle.domain.specs.Locations.{Location, Ac, Cell, same, Values}
use Rattle.domain.specs.Terms.{Term, Holding, Behind, Summand, Sum, term_value, sum_value, same_term, term_is_before, with_coefficient, with_summand, collected, is_sign, arranged, multiplied, same_sum}
use Rattle.domain.specs.Shapes.{has_shape, Spelled, if_shaped, spelled_either, spelled}
use Rattle.domain.specs.Laws.{SumsAreKept, SpellsIt, SpelledIsSo}
use Rattle.domain.proofs.Numbers.{plus_lt, plus_zero, plus_swap, plus_assoc, coefficient_word, coefficients_both, multiple, sign_twice}

pub same_name : (n m : Location) → same n m ≡ true → n ≡ m
same_name Ac Ac e = refl
same_name Ac (Cell b) e = absurd (false≢true e)
same_name (Cell a) Ac e = absurd (false≢true e)
same_name (Cell a) (Cell b) e = ap Cell (eqb-true a b e)

pub same_is : (t u : Term) → same_term t u ≡ true → t ≡ u
same_is (Holding n) (Holding m) e = ap Holding (same_name n m e)
same_is (Holding n) (Behind y l) e = absurd (false≢true e)
same_is (Behind x k) (Holding m) e = absurd (false≢true e)
same_is (Behind x k) (Behind y l) e =
    let p = and_parts (x == y) (k == l) e in
    ap (λ z. Behind z k) (eqb-true x y p.0) ∙ ap (λ z. Behind y z) (eqb-true k l p.1)

module _ (v : Values) (start : Cells) where
  abbrev pub val : Sum → ℕ
  val sum = sum_value v start sum

  pub val_lt : (sum : Sum) → sum_value v start sum < 4096
  val_lt [] = lit< tt
  val_lt (s ∷ ss) = plus_lt (s.coefficient * term_value v start s.term) (val ss)

  with_coefficient_val : (c : ℕ) (t : Term) (rest : Sum) → val (with_coefficient c t rest) ≡ plus (c * term_value v start t) (val rest)
  with_coefficient_val c t rest = cond_both (c == 0) rest (record { coefficient = c; term = t } ∷ rest) (λ l. val l ≡ plus (c * term_value v start t) (val rest))
      (λ e. let z : c ≡ 0 = eqb-true c 0 e in let small : val rest < 4096 = val_lt rest in rw z (nothing_more (term_value v start t) (val rest) small))
      (λ e. refl)
    where
      nothing_more : (x r : ℕ) → r < 4096 → r ≡ plus (0 * x) r
      nothing_more x r h = omega arith

  pub with_summand_val : (c : ℕ) (t : Term) (sum : Sum) → val (with_summand c t sum) ≡ plus (c * term_value v start t) (val sum)
  with_summand_val c t [] = with_coefficient_val (c % 4096) t [] ∙ coefficient_word c (term_value v start t) 0
  with_summand_val c t (s ∷ ss) =
      cond_both (same_term t s.term) _ _ (λ (l : Sum). val l ≡ plus (c * term_value v start t) (val (s ∷ ss)))
      (λ e. let q : t ≡ s.term = same_is t s.term e in
      with_coefficient_val (plus c s.coefficient) t ss ∙ (coefficients_both c s.coefficient (term_value v start t) (val ss) ∙ ap (λ u. plus (c * term_value v start t) (plus (s.coefficient * term_value v start u) (val ss))) q))
      (λ e. cond_both (term_is_before t s.term) _ _ (λ (l : Sum). val l ≡ plus (c * term_value v start t) (val (s ∷ ss)))
      (λ f. with_coefficient_val (c % 4096) t (s ∷ ss) ∙ coefficient_word c (term_value v start t) (val (s ∷ ss)))
      (λ f. ap (λ r. plus (s.coefficient * term_value v start s.term) r) (with_summand_val c t ss) ∙ plus_swap (s.coefficient * term_value v start s.term) (c * term_value v start t) (val ss)))

  pub collected_val : (sum : Sum) → val (collected sum) ≡ val sum
  collected_val [] = refl
  collected_val (s ∷ ss) = with_summand_val s.coefficient s.term (collected ss) ∙ ap (λ r. plus (s.coefficient * term_value v start s.term) r) (collected_val ss)

  pub append_val : (a b : Sum) → val (a ++ b) ≡ plus (val a) (val b)
  append_val [] b = sym (plus_zero (val b) (val_lt b))
  append_val (s ∷ ss) b =
      ap (λ r. plus (s.coefficient * term_value v start s.term) r) (append_val ss b) ∙ sym (plus_assoc (s.coefficient * term_value v start s.term) (val ss) (val b))

  -- the summands that pass a test, and those that do not
  pub parted : (p : Summand → Bool) (sum : Sum) → plus (val (filter p sum)) (val (filter (λ s. not (p s)) sum)) ≡ val sum
  parted p [] = refl
  parted p (s ∷ ss) = go (p s) (parted p ss)
    where
      x : ℕ
      x = s.coefficient * term_value v start s.term

      go : (b : Bool) → plus (val (filter p ss)) (val (filter (λ s. not (p s)) ss)) ≡ val ss →
          plus (val (if b then s ∷ filter p ss else filter p ss)) (val (if not b then s ∷ filter (λ s. not (p s)) ss else filter (λ s. not (p s)) ss)) ≡ plus x (val ss)
      go true e = plus_assoc x (val (filter p ss)) (val (filter (λ s. not (p s)) ss)) ∙ ap (λ r. plus x r) e
      go false e = plus_swap (val (filter p ss)) x (val (filter (λ s. not (p s)) ss)) ∙ ap (λ r. plus x r) e

  pub arranged_val : (sum : Sum) → val (arranged sum) ≡ val sum
  arranged_val sum =
      append_val (filter (λ s. is_sign s.coefficient) (collected sum)) (filter (λ s. not (is_sign s.coefficient)) (collected sum)) ∙
      (parted (λ s. is_sign s.coefficient) (collected sum) ∙ collected_val sum)

  pub multiplied_val : (c : ℕ) (sum : Sum) → val (multiplied c sum) ≡ (c * val sum) % 4096
  multiplied_val c [] = zero_times c
    where
      zero_times : (c : ℕ) → 0 ≡ (c * 0) % 4096
      zero_times c = omega arith
  multiplied_val c (s ∷ ss) =
      ap (λ r. plus ((c * s.coefficient) % 4096 * term_value v start s.term) r) (multiplied_val c ss) ∙ multiple c s.coefficient (term_value v start s.term) (val ss)

  -- two sums that are the same, summand by summand
  pub same_val : (a b : Sum) → same_sum a b ≡ true → val a ≡ val b
  same_val [] [] e = refl
  same_val [] (t ∷ ts) e = absurd (false≢true e)
  same_val (s ∷ ss) [] e = absurd (false≢true e)
  same_val (s ∷ ss) (t ∷ ts) e =
      let p = and_parts (s.coefficient == t.coefficient) (same_term s.term t.term && same_sum ss ts) e in
      let q = and_parts (same_term s.term t.term) (same_sum ss ts) p.1 in
      ap (λ c. plus (c * term_value v start s.term) (val ss)) (eqb-true s.coefficient t.coefficient p.0) ∙
      (ap (λ u. plus (t.coefficient * term_value v start u) (val ss)) (same_is s.term t.term q.0) ∙
      ap (λ r. plus (t.coefficient * term_value v start t.term) r) (same_val ss ts q.1))

  -- what a shaped sum is spelled as
  if_shaped_is : (l : Sum) (sign : ℕ) (s : Spelled) → if_shaped l sign ≡ Some s → (has_shape l ≡ true) × (s ≡ record { sum = l; sign = sign })
  if_shaped_is l sign s e = go (has_shape l) refl e
    where
      go : (b : Bool) → has_shape l ≡ b → (if b then Some (record { sum = l; sign = sign }) else None) ≡ Some s → (has_shape l ≡ true) × (s ≡ record { sum = l; sign = sign })
      go true h q = (h, cc)
      go false h q = absurd cc

  spelled_positive : (l : Sum) (s : Spelled) → if_shaped l 1 ≡ Some s → SpellsIt v start l s
  spelled_positive l s e =
      let p = if_shaped_is l 1 s e in
      let small : val l < 4096 = val_lt l in
      let once : val l ≡ (1 * val l) % 4096 = omega arith in
      rw p.1 (record { shape = p.0; whole = once; part = once })

  spelled_negative : (l : Sum) (s : Spelled) → if_shaped (multiplied 4095 l) 4095 ≡ Some s → SpellsIt v start l s
  spelled_negative l s e =
      let p = if_shaped_is (multiplied 4095 l) 4095 s e in
      let m : val (multiplied 4095 l) ≡ (4095 * val l) % 4096 = multiplied_val 4095 l in
      rw p.1 (record { shape = p.0; whole = sym (ap (λ x. (4095 * x) % 4096) m ∙ sign_twice (val l) (val_lt l)); part = m })

  either_is : (l : Sum) (s : Spelled) → spelled_either l ≡ Some s → SpellsIt v start l s
  either_is l s = cond_both (has_shape l) (if_shaped l 1) (if_shaped (multiplied 4095 l) 4095) (λ (o : Option Spelled). o ≡ Some s → SpellsIt v start l s)
      (λ h e. spelled_positive l s e) (λ h e. spelled_negative l s e)

  pub spells : (sum : Sum) (s : Spelled) → spelled sum ≡ Some s → SpellsIt v start sum s
  spells sum s e =
      let i : SpellsIt v start (arranged sum) s = either_is (arranged sum) s e in
      record { shape = i.shape; whole = sym (arranged_val sum) ∙ i.whole; part = i.part ∙ ap (λ x. (s.sign * x) % 4096) (arranged_val sum) }

pub sums_are_kept : SumsAreKept
sums_are_kept = record { one_more = with_summand_val; collected = collected_val; arranged = arranged_val; multiplied = multiplied_val }

pub spelled_is_so : SpelledIsSo
spelled_is_so = spells
