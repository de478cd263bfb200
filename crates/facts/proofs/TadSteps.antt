-- The steps by TAD.
use Rattle.std.proofs.Common.{◌≡◌, ℕ, ◌+◌, ◌-◌, ◌*◌, ◌/◌, ◌%◌, ◌<◌, ◌==◌, Bool, true, false, not, ◌&&◌, ◌⊎◌, Option, Some, None, List, [], ◌∷◌, refl, sym, ap, ◌∙◌, subst, inl, inr, arith}
use Rattle.std.specs.Prelude.{if◌then◌else◌}
use Rattle.std.proofs.lemmas.Bool.{and_from, and_parts, or_parts, cond_both, eqb-true, eq-eqb, true≢false, cases_eq, lt-ltb, not-true}
use Rattle.wordset.specs.Words.{plus, minus, Words, all_words, one, shifted, sums, meet, only}
use Rattle.wordset.proofs.Tests.{or_cases}
use Rattle.wordset.proofs.Firsts.{only_word}
use Rattle.processor.specs.Cells.{Cells}
use Rattle.processor.specs.Machine.{State}
use Rattle.declaration.specs.Declaration.{IsDeclared}
use Rattle.policy.specs.Calls.{Calls}
use Rattle.domain.specs.Locations.{Ac, Cell, same, Values}
use Rattle.domain.specs.Terms.{Term, Holding, Behind, term_value, sum_value, sum_of_name, coefficient_in, without_term, is_sign}
use Rattle.domain.specs.Chains.{Adds}
use Rattle.domain.specs.Facts.{Relation, Fact, Place, Rules, OfEquations, OfSums, IsTrueOf, AllTrue, AllGiven, Holds, Means}
use Rattle.domain.specs.Adding.{times}
use Rattle.domain.specs.Laws.{IsBegun, KeepsOthers, SameButSets}
use Rattle.domain.proofs.Numbers.{plus_lt, sums_in, times_in}
use Rattle.domain.proofs.SumLemmas.{val_lt, append_val}
use Rattle.domain.proofs.AddingLemmas.{adding_keeps, all_added_is_so, name_val, all_append}
use Rattle.domain.proofs.MoveLemmas.{longer_is_so, free_true, sum_kept}
use Rattle.facts.specs.States.{IsState}
use Rattle.transfer.specs.References.{words_at, is_fixed, are_fixed, one_target, operand_term}
use Rattle.transfer.specs.Additions.{names, has_ac, if_without_ac, less, ac_with_rest, brought_by, brought, after_tad, all_after_tad, without_sums, summed, equations_moved, equations_after_tad, sums_under, chains_after_tad}
use Rattle.transfer.specs.Outcomes.{ac_of, goes, added_under, added, tad_by}
use Rattle.facts.specs.Laws.{LandsIn, SomeOutcome}
use Rattle.facts.proofs.WordLemmas.{bit_one, or_left, or_right, some_from, has_all, shift_true, carry_number, toggle_true, carrying_true}
use Rattle.facts.proofs.TermLemmas.{term_apart, without_less}
use Rattle.facts.proofs.StateLemmas.{set_at, ac_values, value_of, values_words, some_left, some_right, vals, means_like, ac_true, words_at_true, goes_to, some_target}
use Rattle.facts.proofs.RelationLemmas.{true_flat, without_true, rest_of, with_ac, ac_changed, ac_with_rest_value}

-- ---- what a relation says after it

sum_number : (a r x b : ℕ) → b ≡ plus a x → plus b r ≡ plus (plus a r) x
sum_number a r x b e = omega arith

less_number : (a r x b : ℕ) → b ≡ plus a x → plus (plus b r) (plus (4095 * x) 0) ≡ plus a r
less_number a r x b e = omega arith

sign_number : (c a x q s b : ℕ) → (c ≡ 1) ⊎ (c ≡ 4095) → s ≡ plus (c * x) q → b ≡ plus a x → plus b ((c * q) % 4096) ≡ plus ((c * s) % 4096) a
sign_number c a x q s b sign e f = elim sign [
  | inl o ↦ once c a x q s b o e f
  | inr o ↦ turned c a x q s b o e f
]
  where
    once : (c a x q s b : ℕ) → c ≡ 1 → s ≡ plus (c * x) q → b ≡ plus a x → plus b ((c * q) % 4096) ≡ plus ((c * s) % 4096) a
    once c a x q s b o e f = rw o (let g : s ≡ plus (1 * x) q = rw o at e in omega arith)

    turned : (c a x q s b : ℕ) → c ≡ 4095 → s ≡ plus (c * x) q → b ≡ plus a x → plus b ((c * q) % 4096) ≡ plus ((c * s) % 4096) a
    turned c a x q s b o e f = rw o (let g : s ≡ plus (4095 * x) q = rw o at e in omega arith)

-- the accumulator took the sum with a word
record AddedUp (v w : Values) (x : ℕ) : Type 0 where
  others : KeepsOthers (λ m. same m Ac) v w
  small : v Ac < 4096
  word : x < 4096
  sum : w Ac ≡ plus (v Ac) x

-- a term has this word before and after
record HasWord (v w : Values) (start : Cells) (t : Term) (x : ℕ) : Type 0 where
  before : term_value v start t ≡ x
  after : term_value w start t ≡ x

-- if there is a term, it has this word
abbrev IsOperand : Values → Values → Cells → Option Term → ℕ → Type 0
IsOperand v w start o x = (t : Term) → o ≡ Some t → HasWord v w start t x

summed_true : (v w : Values) (start : Cells) (operand : Words) (x : ℕ) (r : Relation) → AddedUp v w x → operand x ≡ true → IsTrueOf v start r →
    AllTrue w start (if has_ac r.sum then record { sum = r.sum; set = sums r.set operand } ∷ [] else if_without_ac r)
summed_true v w start operand x r u o t = cond_both (has_ac r.sum) (record { sum = r.sum; set = sums r.set operand } ∷ []) (if_without_ac r) (AllTrue w start)
    (λ q.
    let is : sum_value w start r.sum ≡ plus (sum_value v start r.sum) x =
    ac_changed v w start r.sum u.others q ∙ (sum_number (v Ac) (rest_of v start r.sum) x (w Ac) u.sum ∙ ap (λ n. plus n x) (sym (with_ac v start r.sum q))) in
    (ap (sums r.set operand) is ∙ sums_in r.set operand (sum_value v start r.sum) x (val_lt v start r.sum) u.word t o, tt))
    (λ q. without_true v w start r u.others t)

less_true : (v w : Values) (start : Cells) (t : Term) (x : ℕ) (r : Relation) → AddedUp v w x → HasWord v w start t x → has_ac r.sum ≡ true → IsTrueOf v start r →
    r.set (sum_value w start (less r.sum t)) ≡ true
less_true v w start t x r u k q h =
    let is : sum_value w start (less r.sum t) ≡ plus (plus (w Ac) (rest_of v start r.sum)) (plus (4095 * x) 0) =
    append_val w start r.sum (record { coefficient = 4095; term = t } ∷ [])
    ∙ (ap (λ n. plus n (plus (4095 * term_value w start t) 0)) (ac_changed v w start r.sum u.others q)
    ∙ ap (λ n. plus (plus (w Ac) (rest_of v start r.sum)) (plus (4095 * n) 0)) k.after) in
    let back : sum_value w start (less r.sum t) ≡ sum_value v start r.sum =
    is ∙ (less_number (v Ac) (rest_of v start r.sum) x (w Ac) u.sum ∙ sym (with_ac v start r.sum q)) in
    ap r.set back ∙ h

sign_cases : (c : ℕ) → is_sign c ≡ true → (c ≡ 1) ⊎ (c ≡ 4095)
sign_cases c e = elim (or_cases (c == 1) (c == 4095) e) [ inl q ↦ inl (eqb-true c 1 q) | inr q ↦ inr (eqb-true c 4095 q) ]

brought_by_true : (v w : Values) (start : Cells) (ac : Words) (t : Term) (x : ℕ) (r : Relation) → AddedUp v w x → HasWord v w start t x → ac (v Ac) ≡ true → names Ac r.sum ≡ false →
    IsTrueOf v start r → AllTrue w start (brought_by (coefficient_in t r.sum) t ac r)
brought_by_true v w start ac t x r u k a q h =
    cond_both (is_sign c) (record { sum = ac_with_rest c t r.sum; set = sums (times c r.set) ac } ∷ []) [] (AllTrue w start)
    (λ sign.
    let rest : sum_value w start (without_term t r.sum) ≡ sum_value v start (without_term t r.sum) =
    sum_kept (λ m. same m Ac) start v w (without_term t r.sum) u.others (without_less (λ m. same m Ac) t r.sum q) in
    let apart : sum_value v start r.sum ≡ plus (c * x) (sum_value v start (without_term t r.sum)) =
    term_apart v start t r.sum ∙ ap (λ n. plus (c * n) (sum_value v start (without_term t r.sum))) k.before in
    let is : sum_value w start (ac_with_rest c t r.sum) ≡ plus ((c * sum_value v start r.sum) % 4096) (v Ac) =
    ac_with_rest_value w start c t r.sum ∙ (ap (λ n. plus (w Ac) ((c * n) % 4096)) rest
    ∙ sign_number c (v Ac) x (sum_value v start (without_term t r.sum)) (sum_value v start r.sum) (w Ac) (sign_cases c sign) apart u.sum) in (
      ap (sums (times c r.set) ac) is
          ∙ sums_in (times c r.set) ac ((c * sum_value v start r.sum) % 4096) (v Ac) (product_word (c * sum_value v start r.sum)) u.small
          (times_in c r.set (sum_value v start r.sum) (val_lt v start r.sum) h) a,
      tt,
    ))
    (λ sign. tt)
  where
    c : ℕ
    c = coefficient_in t r.sum

    product_word : (n : ℕ) → n % 4096 < 4096
    product_word n = omega arith

brought_true : (v w : Values) (start : Cells) (ac : Words) (o : Option Term) (x : ℕ) (r : Relation) → AddedUp v w x → IsOperand v w start o x → ac (v Ac) ≡ true →
    IsTrueOf v start r → AllTrue w start (brought ac o r)
brought_true v w start ac None x r u k a h = tt
brought_true v w start ac (Some t) x r u k a h =
    cond_both (has_ac r.sum) (record { sum = less r.sum t; set = r.set } ∷ []) (if names Ac r.sum then [] else brought_by (coefficient_in t r.sum) t ac r) (AllTrue w start)
    (λ q. (less_true v w start t x r u (k t refl) q h, tt))
    (λ q. cond_both (names Ac r.sum) [] (brought_by (coefficient_in t r.sum) t ac r) (AllTrue w start) (λ e. tt) (λ e. brought_by_true v w start ac t x r u (k t refl) a e h))

all_after_tad_true : (v w : Values) (start : Cells) (link : ℕ) (operand : Words) (o : Option Term) (x : ℕ) (f : Fact) → AddedUp v w x → IsOperand v w start o x → operand x ≡ true →
    Holds f v start link → AllTrue w start (all_after_tad operand o f)
all_after_tad_true v w start link operand o x f u k p h =
    true_flat v w start (λ r. after_tad (f.set Ac) operand o r)
    (λ r t. all_append w start _ (brought (f.set Ac) o r) (summed_true v w start operand x r u p t) (brought_true v w start (f.set Ac) o x r u k (h.sets Ac) t))
    (record { sum = sum_of_name Ac; set = f.set Ac } ∷ f.relations)
    (ap (f.set Ac) (name_val (v Ac) u.small) ∙ h.sets Ac, h.relations)

-- ---- by the rules of equations

moved_number : (a r x b : ℕ) → x < 4096 → b ≡ plus a x → minus (plus b r) x ≡ plus a r
moved_number a r x b h e = omega arith

equations_moved_true : (v w : Values) (start : Cells) (x : ℕ) (rs : List Relation) → AddedUp v w x → AllTrue v start rs → AllTrue w start (equations_moved x rs)
equations_moved_true v w start x rs u t = true_flat v w start (λ r. if has_ac r.sum then record { sum = r.sum; set = shifted r.set x } ∷ [] else if_without_ac r) each rs t
  where
    each : (r : Relation) → IsTrueOf v start r → AllTrue w start (if has_ac r.sum then record { sum = r.sum; set = shifted r.set x } ∷ [] else if_without_ac r)
    each r h = cond_both (has_ac r.sum) (record { sum = r.sum; set = shifted r.set x } ∷ []) (if_without_ac r) (AllTrue w start)
        (λ q.
        let is : sum_value w start r.sum ≡ plus (w Ac) (rest_of v start r.sum) = ac_changed v w start r.sum u.others q in
        let back : minus (plus (w Ac) (rest_of v start r.sum)) x ≡ sum_value v start r.sum =
        moved_number (v Ac) (rest_of v start r.sum) x (w Ac) u.word u.sum ∙ sym (with_ac v start r.sum q) in
        (ap (shifted r.set x) is ∙ shift_true r.set x (plus (w Ac) (rest_of v start r.sum)) (plus_lt (w Ac) (rest_of v start r.sum)) (ap r.set back ∙ h), tt))
        (λ q. without_true v w start r u.others h)

is_number : (a x b : ℕ) → a < 4096 → b ≡ plus a x → plus (1 * b) (plus (4095 * x) 0) ≡ a
is_number a x b h e = omega arith

module _ (pl : Place) (dd : IsDeclared pl.declaration) (start : Cells) (begun : IsBegun pl.image start) where
  equations_true : (v w : Values) (x : ℕ) (rs : List Relation) (o : Option Term) (oa ox : Option ℕ) → AddedUp v w x → IsOperand v w start o x →
      ((a : ℕ) → oa ≡ Some a → v Ac ≡ a) → ((z : ℕ) → ox ≡ Some z → x ≡ z) → AllTrue v start rs → AllTrue w start (equations_after_tad o oa ox rs)
  equations_true v w x rs (Some t) (Some a) ox u k ha hx h = (
    (let is : plus (1 * w Ac) (plus (4095 * term_value w start t) 0) ≡ a =
        ap (λ n. plus (1 * w Ac) (plus (4095 * n) 0)) (k t refl).after ∙ (is_number (v Ac) x (w Ac) u.small u.sum ∙ ha a refl) in
        eq-eqb (plus (1 * w Ac) (plus (4095 * term_value w start t) 0)) a is),
    free_true (λ m. same m Ac) start v w rs u.others h,
  )
  equations_true v w x rs (Some t) None (Some z) u k ha hx h = subst (λ n. AllTrue w start (equations_moved n rs)) (hx z refl) (equations_moved_true v w start x rs u h)
  equations_true v w x rs (Some t) None None u k ha hx h = free_true (λ m. same m Ac) start v w rs u.others h
  equations_true v w x rs None oa (Some z) u k ha hx h = subst (λ n. AllTrue w start (equations_moved n rs)) (hx z refl) (equations_moved_true v w start x rs u h)
  equations_true v w x rs None oa None u k ha hx h = free_true (λ m. same m Ac) start v w rs u.others h

  -- ---- the term of the operand

  target_is : (s : State) (p : Words) (y ac : ℕ) (t : Term) → y < 4096 → p y ≡ true → one_target pl.declaration (only p) ≡ Some t → term_value (vals pl dd start begun ac s.memory) start t ≡ s.memory y
  target_is s p y ac t lt e is = go (only p) refl is
    where
      go : (o : Option ℕ) → only p ≡ o → one_target pl.declaration o ≡ Some t → term_value (vals pl dd start begun ac s.memory) start t ≡ s.memory y
      go None q r = absurd (let z : None ≡ Some t = r in cc)
      go (Some z) q r = chosen (pl.declaration.variable z) refl r
        where
          zy : y ≡ z
          zy = (only_word p z q).lone y lt e

          chosen : (b : Bool) → pl.declaration.variable z ≡ b → (if b then Some (Holding (Cell z)) else None) ≡ Some t → term_value (vals pl dd start begun ac s.memory) start t ≡ s.memory y
          chosen false var r = absurd (let n : None ≡ Some t = r in cc)
          chosen true var r =
              let it : Holding (Cell z) ≡ t = cc in
              ap (λ u. term_value (vals pl dd start begun ac s.memory) start u) (sym it)
              ∙ (value_of pl.declaration start ac s.memory z var ∙ ap s.memory (sym zy))

  fixed_word : (f : Fact) (s : State) (ks : Calls) (p : Words) (y : ℕ) → Means pl start f s ks → y < 4096 → p y ≡ true → are_fixed pl.declaration p ≡ true → start y ≡ s.memory y
  fixed_word f s ks p y h lt e fixed =
      let is : is_fixed pl.declaration y ≡ true = not_not (is_fixed pl.declaration y)
      (λ q. true≢false (sym (some_from 4096 (λ a. p a && not (is_fixed pl.declaration a)) y lt (and_from _ _ e q)) ∙ not-true _ fixed)) in
      let both = or_parts (pl.declaration.variable y) (pl.declaration.entry y) (not-true _ is) in
      sym (h.rest y both.0 both.1)
    where
      not_not : (b : Bool) → (not b ≡ true → ⊥) → b ≡ true
      not_not true n = refl
      not_not false n = absurd (n refl)

  zero_more : (n : ℕ) → n < 4096 → plus n 0 ≡ n
  zero_more n h = omega arith

  operand_is : (f : Fact) (s : State) (ks : Calls) (i : Bool) (c : ℕ) (p : Words) (y ac : ℕ) (t : Term) → IsState s → Means pl start f s ks → y < 4096 → p y ≡ true → (i ≡ true → s.memory c ≡ y) →
      operand_term pl.declaration i c p ≡ Some t → term_value (vals pl dd start begun ac s.memory) start t ≡ s.memory y
  operand_is f s ks i c p y ac t ss h lt e at is = go (i && (pl.declaration.variable c && are_fixed pl.declaration p)) refl is
    where
      go : (b : Bool) → (i && (pl.declaration.variable c && are_fixed pl.declaration p)) ≡ b → (if b then Some (Behind c 0) else one_target pl.declaration (only p)) ≡ Some t →
          term_value (vals pl dd start begun ac s.memory) start t ≡ s.memory y
      go false q r = target_is s p y ac t lt e r
      go true q r =
          let parts = and_parts i (pl.declaration.variable c && are_fixed pl.declaration p) q in
          let more = and_parts (pl.declaration.variable c) (are_fixed pl.declaration p) parts.1 in
          let it : Behind c 0 ≡ t = cc in
          let to : plus (vals pl dd start begun ac s.memory (Cell c)) 0 ≡ y =
          ap (λ n. plus n 0) (value_of pl.declaration start ac s.memory c more.0) ∙ (zero_more (s.memory c) (ss.words c) ∙ at parts.0) in
          ap (λ u. term_value (vals pl dd start begun ac s.memory) start u) (sym it)
          ∙ (ap start to ∙ fixed_word f s ks p y h lt e more.1)

  -- ---- the step

  abbrev pub added_state : State → ℕ → State
  added_state s y = record s {
    ac = plus s.ac (s.memory y);
    link = (s.link + (s.ac + s.memory y) / 4096) % 2;
    pc = plus s.pc 1;
  }

  link_word : (n : ℕ) → n % 2 < 2
  link_word n = omega arith

  added_word : (s : State) (y : ℕ) → IsState s → IsState (added_state s y)
  added_word s y ss = record { ac = plus_lt s.ac (s.memory y); link = link_word (s.link + (s.ac + s.memory y) / 4096); mq = ss.mq; pc = plus_lt s.pc 1; words = ss.words }

  added_up : (s : State) (y : ℕ) → IsState s → AddedUp (vals pl dd start begun s.ac s.memory) (vals pl dd start begun (plus s.ac (s.memory y)) s.memory) (s.memory y)
  added_up s y ss = record { others = ac_values pl.declaration start s.ac (plus s.ac (s.memory y)) s.memory; small = ss.ac; word = ss.words y; sum = refl }

  -- the carry tells from which link this one came
  under_true : (f : Fact) (operand : Words) (a x k l : ℕ) → a < 4096 → x < 4096 → k < 2 → f.link k ≡ true → f.set Ac a ≡ true → operand x ≡ true → l ≡ (k + (a + x) / 4096) % 2 →
      sums_under f.link (f.set Ac) operand l (plus a x) ≡ true
  under_true f operand a x k l ha hx hk q p o is = elim (carry_number a x ha hx) [
    | inl z ↦
        (let same_link : l ≡ k = omega arith in
        let whole : a + x ≡ plus a x + 0 * 4096 = omega arith in
        or_left _ _ (and_from _ _ (ap f.link same_link ∙ q) (carrying_true 0 (f.set Ac) operand a x (plus a x) ha hx p o (plus_lt a x) whole)))
    | inr z ↦
        (let other_link : 1 - l ≡ k = omega arith in
        let whole : a + x ≡ plus a x + 1 * 4096 = omega arith in
        or_right _ _ (and_from _ _ (ap f.link other_link ∙ q) (carrying_true 1 (f.set Ac) operand a x (plus a x) ha hx p o (plus_lt a x) whole)))
  ]

  chains_true : (f : Fact) (s : State) (ks : Calls) (operand : Words) (y : ℕ) → IsState s → Means pl start f s ks → operand (s.memory y) ≡ true → (o : Option ℕ) → only operand ≡ o →
      AllGiven (vals pl dd start begun (plus s.ac (s.memory y)) s.memory) ((s.link + (s.ac + s.memory y) / 4096) % 2) (chains_after_tad o f.chains)
  chains_true f s ks operand y ss h e None q = tt
  chains_true f s ks operand y ss h e (Some z) q =
      let is : s.memory y ≡ z = (only_word operand z q).lone (s.memory y) (ss.words y) e in
      longer_is_so (Adds z) (vals pl dd start begun s.ac s.memory) (vals pl dd start begun (plus s.ac (s.memory y)) s.memory) s.link ((s.link + (s.ac + s.memory y) / 4096) % 2) f.chains
      (ac_values pl.declaration start s.ac (plus s.ac (s.memory y)) s.memory) (ap (λ n. (plus s.ac n, (s.link + (s.ac + n) / 4096) % 2)) (sym is)) h.holds.chains

  summed_holds : (f : Fact) (s : State) (ks : Calls) (operand : Words) (o : Option Term) (y : ℕ) → IsState s → Means pl start f s ks → operand (s.memory y) ≡ true →
      ((t : Term) (ac : ℕ) → o ≡ Some t → term_value (vals pl dd start begun ac s.memory) start t ≡ s.memory y) → (link : ℕ) →
      Holds (summed operand o f) (vals pl dd start begun (plus s.ac (s.memory y)) s.memory) start link
  summed_holds f s ks operand o y ss h e k link =
      let was : Values = vals pl dd start begun s.ac s.memory in
      let now : Values = vals pl dd start begun (plus s.ac (s.memory y)) s.memory in
      all_added_is_so OfSums start (without_sums f) now link (all_after_tad operand o f) begun.words
      (values_words pl.declaration start (plus s.ac (s.memory y)) s.memory (plus_lt s.ac (s.memory y)) begun.words ss.words)
      (record {
        sets = set_at Ac all_words f.set now (lt-ltb (plus s.ac (s.memory y)) 4096 (plus_lt s.ac (s.memory y)))
            (λ n q. ap (f.set n) (ac_values pl.declaration start s.ac (plus s.ac (s.memory y)) s.memory n q) ∙ h.holds.sets n);
        relations = tt;
        chains = tt;
      })
      (all_after_tad_true was now start s.link operand o (s.memory y) f (added_up s y ss) (λ t q. record { before = k t s.ac q; after = k t (plus s.ac (s.memory y)) q }) e h.holds)

  under_means : (f : Fact) (s : State) (ks : Calls) (operand : Words) (o : Option Term) (y l : ℕ) → IsState s → Means pl start f s ks → operand (s.memory y) ≡ true →
      ((t : Term) (ac : ℕ) → o ≡ Some t → term_value (vals pl dd start begun ac s.memory) start t ≡ s.memory y) → l ≡ (s.link + (s.ac + s.memory y) / 4096) % 2 →
      Means pl start (added_under operand o f l) (added_state s y) ks
  under_means f s ks operand o y l ss h e k is =
      let now : Values = vals pl dd start begun (plus s.ac (s.memory y)) s.memory in
      let m : Holds (summed operand o f) now start ((s.link + (s.ac + s.memory y) / 4096) % 2) = summed_holds f s ks operand o y ss h e k ((s.link + (s.ac + s.memory y) / 4096) % 2) in
      let same_rest : SameButSets (without_sums f) (summed operand o f) = adding_keeps OfSums (all_after_tad operand o f) (without_sums f) in
      means_like pl dd start begun f (added_under operand o f l) s ks (plus s.ac (s.memory y)) ((s.link + (s.ac + s.memory y) / 4096) % 2) s.mq (plus s.pc 1) h
      (record {
        sets = set_at Ac (meet ((summed operand o f).set Ac) (sums_under f.link (f.set Ac) operand l)) (summed operand o f).set now
            (and_from _ _ (m.sets Ac) (under_true f operand s.ac (s.memory y) s.link l ss.ac (ss.words y) ss.link h.link (h.holds.sets Ac) e is))
            (λ n q. m.sets n);
        relations = m.relations;
        chains = chains_true f s ks operand y ss h e (only operand) refl;
      })
      (ap (λ (x : Words). x s.mq) same_rest.mq ∙ h.mq)
      (eq-eqb ((s.link + (s.ac + s.memory y) / 4096) % 2) l (sym is)) same_rest.sites same_rest.offsets

  tad_sums : (f : Fact) (s : State) (ks : Calls) (p : Words) (o : Option Term) (y : ℕ) → IsState s → Means pl start f s ks → y < 4096 → p y ≡ true →
      ((t : Term) (ac : ℕ) → o ≡ Some t → term_value (vals pl dd start begun ac s.memory) start t ≡ s.memory y) →
      SomeOutcome (LandsIn pl start (added_state s y) ks) (tad_by OfSums pl s.pc f p o)
  tad_sums f s ks p o y ss h lt e k = elim (cases_eq ((s.link + (s.ac + s.memory y) / 4096) % 2) 0) [
    | inl z ↦ some_left (LandsIn pl start (added_state s y) ks) (goes pl p f all_words (one (plus s.pc 1)) (added_under (words_at pl f p) o f 0)) _ (by 0 (sym z))
    | inr n ↦ some_right (LandsIn pl start (added_state s y) ks) (goes pl p f all_words (one (plus s.pc 1)) (added_under (words_at pl f p) o f 0)) _
        (by 1 (bit_one ((s.link + (s.ac + s.memory y) / 4096) % 2) (link_word (s.link + (s.ac + s.memory y) / 4096)) n))
  ]
    where
      by : (l : ℕ) → l ≡ (s.link + (s.ac + s.memory y) / 4096) % 2 → SomeOutcome (LandsIn pl start (added_state s y) ks) (goes pl p f all_words (one (plus s.pc 1)) (added_under (words_at pl f p) o f l))
      by l is = goes_to pl dd start begun p all_words (one (plus s.pc 1)) f (added_under (words_at pl f p) o f l) s (added_state s y) ks ss (added_word s y ss) h
          (under_means f s ks (words_at pl f p) o y l ss h (words_at_true pl dd start begun f s ks p y ss h lt e) k is)
          (some_target pl dd start begun p y lt e) has_all (eq-eqb (plus s.pc 1) (plus s.pc 1) refl)

  tad_equations : (f : Fact) (s : State) (ks : Calls) (p : Words) (y : ℕ) → IsState s → Means pl start f s ks → y < 4096 → p y ≡ true →
      SomeOutcome (LandsIn pl start (added_state s y) ks) (goes pl p f all_words (one (plus s.pc 1)) (added (ac_of pl f) (words_at pl f p) (one_target pl.declaration (only p)) f))
  tad_equations f s ks p y ss h lt e =
      let was : Values = vals pl dd start begun s.ac s.memory in
      let now : Values = vals pl dd start begun (plus s.ac (s.memory y)) s.memory in
      let ac : Words = ac_of pl f in
      let operand : Words = words_at pl f p in
      let a : ac s.ac ≡ true = ac_true pl dd start begun f s ks ss h in
      let x : operand (s.memory y) ≡ true = words_at_true pl dd start begun f s ks p y ss h lt e in
      goes_to pl dd start begun p all_words (one (plus s.pc 1)) f (added ac operand (one_target pl.declaration (only p)) f) s (added_state s y) ks ss (added_word s y ss) h
      (means_like pl dd start begun f (added ac operand (one_target pl.declaration (only p)) f) s ks (plus s.ac (s.memory y)) ((s.link + (s.ac + s.memory y) / 4096) % 2) s.mq (plus s.pc 1) h
      (record {
        sets = set_at Ac (sums ac operand) f.set now (sums_in ac operand s.ac (s.memory y) ss.ac (ss.words y) a x)
            (λ n q. ap (f.set n) (ac_values pl.declaration start s.ac (plus s.ac (s.memory y)) s.memory n q) ∙ h.holds.sets n);
        relations = equations_true was now (s.memory y) f.relations (one_target pl.declaration (only p)) (only ac) (only operand) (added_up s y ss)
            (λ t q. record { before = target_is s p y s.ac t lt e q; after = target_is s p y (plus s.ac (s.memory y)) t lt e q })
            (λ z q. (only_word ac z q).lone s.ac ss.ac a) (λ z q. (only_word operand z q).lone (s.memory y) (ss.words y) x) h.holds.relations;
        chains = tt;
      })
      h.mq (toggle_true f.link ac operand s.link s.ac (s.memory y) ss.link ss.ac (ss.words y) h.link a x) refl refl)
      (some_target pl dd start begun p y lt e) has_all (eq-eqb (plus s.pc 1) (plus s.pc 1) refl)

  pub tad_step : (rules : Rules) (f : Fact) (s : State) (ks : Calls) (i : Bool) (c : ℕ) (p : Words) (y : ℕ) → IsState s → Means pl start f s ks → y < 4096 → p y ≡ true → (i ≡ true → s.memory c ≡ y) →
      SomeOutcome (LandsIn pl start (added_state s y) ks) (tad_by rules pl s.pc f p (operand_term pl.declaration i c p))
  tad_step OfSums f s ks i c p y ss h lt e at = tad_sums f s ks p (operand_term pl.declaration i c p) y ss h lt e (λ t ac q. operand_is f s ks i c p y ac t ss h lt e at q)
  tad_step OfEquations f s ks i c p y ss h lt e at = tad_equations f s ks p y ss h lt e
