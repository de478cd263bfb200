-- The steps by DCA.
use Rattle.std.proofs.Common.{◌≡◌, ℕ, ◌+◌, ◌-◌, ◌*◌, ◌<◌, ◌≤◌, true, false, not, ◌&&◌, Option, Some, None, [], ◌∷◌, refl, sym, ap, ◌∙◌, inr, arith, lit<, lit≤}
use Rattle.std.specs.Prelude.{if◌then◌else◌, flat_map, nat_lt, nat_le}
use Rattle.std.proofs.lemmas.Bool.{and_parts, and_from, cond_both, eq-eqb, lt-ltb, ltb-true, leb-true, not-true, true≢false}
use Rattle.wordset.specs.Words.{plus, minus, Words, all_words, one, only, meet, shifted}
use Rattle.wordset.proofs.Firsts.{only_word}
use Rattle.processor.specs.Cells.{Cells, updated}
use Rattle.processor.specs.Machine.{State}
use Rattle.declaration.specs.Declaration.{IsDeclared}
use Rattle.policy.specs.Calls.{Calls}
use Rattle.domain.specs.Locations.{Location, Ac, Cell, same, Values}
use Rattle.domain.specs.Terms.{Holding, sum_value, sum_of_name, difference_of, without_term}
use Rattle.domain.specs.Facts.{Relation, Fact, Place, Rules, OfEquations, OfSums, IsTrueOf, AllTrue, Holds, OwnWord, last_site, Means}
use Rattle.domain.specs.Adding.{with_set, set_of_sum}
use Rattle.domain.specs.Moves.{moved_relation, taking, weakly_updated}
use Rattle.domain.specs.Laws.{IsBegun, AreValues, KeepsOthers, GoesUp, SameButSets}
use Rattle.domain.proofs.Numbers.{plus_lt}
use Rattle.domain.proofs.SumLemmas.{same_name}
use Rattle.domain.proofs.AddingLemmas.{given_is_so, adding_keeps, all_added_is_so, name_val}
use Rattle.domain.proofs.MoveLemmas.{taking_holds, moved_is_so, weakly_updated_holds, sum_kept}
use Rattle.facts.specs.States.{IsState, TopIsEntry}
use Rattle.transfer.specs.Additions.{names, has_ac}
use Rattle.transfer.specs.Stores.{with_cell_for_ac, has_all_words, after_store, all_after_store, stored, copied_for, copied}
use Rattle.facts.specs.Conditions.{AreInReach}
use Rattle.transfer.specs.Outcomes.{ac_of, goes, stored_by, moved, dca_case}
use Rattle.facts.specs.Laws.{LandsIn, SomeOutcome}
use Rattle.transfer.proofs.OneTarget.{direct_only}
use Rattle.facts.proofs.WordLemmas.{once, minus_lt, some_from, has_all, shift_true}
use Rattle.facts.proofs.TermLemmas.{without_less}
use Rattle.facts.proofs.StateLemmas.{ac_values, updated_values, updated_same, hidden_values, rest_updated, stands_like, value_of, values_words, words_updated, vals, means_updated, ac_true, names_words, goes_to, some_target}
use Rattle.facts.proofs.RelationLemmas.{true_flat, still_true, rest_of, with_ac, rest_kept}

gap_number : (a x : ℕ) → a < 4096 → x < 4096 → plus (1 * a) (plus (4095 * x) 0) ≡ minus a x
gap_number a x h g = omega arith

back_number : (a x : ℕ) → a < 4096 → x < 4096 → a ≡ plus x (minus a x)
back_number a x h g = omega arith

last_word : (rules : Rules) → last_site rules ≤ 4094
last_word OfEquations = lit≤ tt
last_word OfSums = lit≤ tt

module _ (pl : Place) (dd : IsDeclared pl.declaration) (start : Cells) (begun : IsBegun pl.image start) where
  -- the names before, with the accumulator at 0, and after
  abbrev was : State → Values
  was s = vals pl dd start begun s.ac s.memory

  abbrev between : State → Values
  between s = vals pl dd start begun 0 s.memory

  abbrev now : State → ℕ → Values
  now s y = vals pl dd start begun 0 (updated s.memory y s.ac)

  here : (s : State) (y ac : ℕ) → pl.declaration.variable y ≡ true → vals pl dd start begun ac (updated s.memory y s.ac) (Cell y) ≡ s.ac
  here s y ac var = value_of pl.declaration start ac (updated s.memory y s.ac) y var ∙ updated_same s.memory y s.ac

  now_words : (s : State) (y : ℕ) → IsState s → AreValues (now s y)
  now_words s y ss = values_words pl.declaration start 0 (updated s.memory y s.ac) (lit< tt) begun.words (words_updated s.memory y s.ac ss.ac ss.words)

  -- the cell in the accumulator's place
  cell_true : (s : State) (y : ℕ) (r : Relation) → pl.declaration.variable y ≡ true → has_ac r.sum ≡ true → names (Cell y) r.sum ≡ false → IsTrueOf (was s) start r →
      r.set (sum_value (now s y) start (with_cell_for_ac y r.sum)) ≡ true
  cell_true s y r var q n t =
      let rest : sum_value (now s y) start (without_term (Holding Ac) r.sum) ≡ rest_of (was s) start r.sum =
      sum_kept (λ m. same m (Cell y)) start (between s) (now s y) (without_term (Holding Ac) r.sum) (updated_values pl.declaration start 0 s.memory y s.ac) (without_less (λ m. same m (Cell y)) (Holding Ac) r.sum n)
      ∙ rest_kept (was s) (between s) start r.sum (ac_values pl.declaration start s.ac 0 s.memory) in
      let is : sum_value (now s y) start (with_cell_for_ac y r.sum) ≡ sum_value (was s) start r.sum =
      ap (λ x. plus (1 * x) (sum_value (now s y) start (without_term (Holding Ac) r.sum))) (here s y 0 var)
      ∙ (ap (plus (1 * s.ac)) rest ∙ (once s.ac (rest_of (was s) start r.sum) ∙ sym (with_ac (was s) start r.sum q))) in
      ap r.set is ∙ t

  -- ---- by the rules of sums

  store_goes_up : (s : State) (y : ℕ) → IsState s → pl.declaration.variable y ≡ true → GoesUp y (minus s.ac (s.memory y)) (between s) (now s y)
  store_goes_up s y ss var = record {
    more = here s y 0 var ∙ (back_number s.ac (s.memory y) ss.ac (ss.words y) ∙ ap (λ x. plus x (minus s.ac (s.memory y))) (sym (value_of pl.declaration start 0 s.memory y var)));
    others = updated_values pl.declaration start 0 s.memory y s.ac;
  }

  gap_true : (f : Fact) (s : State) (ks : Calls) (y : ℕ) → IsState s → Means pl start f s ks → pl.declaration.variable y ≡ true → set_of_sum f (difference_of Ac (Cell y)) (minus s.ac (s.memory y)) ≡ true
  gap_true f s ks y ss h var =
      let is : sum_value (was s) start (difference_of Ac (Cell y)) ≡ minus s.ac (s.memory y) =
      ap (λ x. plus (1 * s.ac) (plus (4095 * x) 0)) (value_of pl.declaration start s.ac s.memory y var) ∙ gap_number s.ac (s.memory y) ss.ac (ss.words y) in
      ap (set_of_sum f (difference_of Ac (Cell y))) (sym is)
      ∙ given_is_so start f (was s) s.link (difference_of Ac (Cell y)) begun.words (names_words pl dd start begun s ss) h.holds

  after_store_true : (s : State) (y : ℕ) (by : Words) (r : Relation) → IsState s → pl.declaration.variable y ≡ true → by (minus s.ac (s.memory y)) ≡ true → IsTrueOf (was s) start r →
      AllTrue (now s y) start (after_store y by r)
  after_store_true s y by r ss var d t =
      cond_both (has_ac r.sum) (if names (Cell y) r.sum then [] else record { sum = with_cell_for_ac y r.sum; set = r.set } ∷ []) _ (AllTrue (now s y) start)
      (λ q. cond_both (names (Cell y) r.sum) [] (record { sum = with_cell_for_ac y r.sum; set = r.set } ∷ []) (AllTrue (now s y) start) (λ e. tt) (λ e. (cell_true s y r var q e t, tt)))
      (λ q. cond_both (names Ac r.sum) [] _ (AllTrue (now s y) start) (λ e. tt)
      (λ e.
      let half : IsTrueOf (between s) start r = still_true (was s) (between s) start Ac r (ac_values pl.declaration start s.ac 0 s.memory) e t in
      cond_both (names (Cell y) r.sum) (if has_all_words by then [] else moved_relation y by (only by) r) (r ∷ []) (AllTrue (now s y) start)
      (λ x. cond_both (has_all_words by) [] (moved_relation y by (only by) r) (AllTrue (now s y) start) (λ z. tt)
      (λ z. moved_is_so y (minus s.ac (s.memory y)) by start (between s) (now s y) r (store_goes_up s y ss var) (minus_lt s.ac (s.memory y)) d half))
      (λ x. (still_true (between s) (now s y) start (Cell y) r (updated_values pl.declaration start 0 s.memory y s.ac) x half, tt))))

  all_after_store_true : (f : Fact) (s : State) (ks : Calls) (y : ℕ) → IsState s → Means pl start f s ks → pl.declaration.variable y ≡ true → AllTrue (now s y) start (all_after_store y f)
  all_after_store_true f s ks y ss h var =
      true_flat (was s) (now s y) start (after_store y (set_of_sum f (difference_of Ac (Cell y))))
      (λ r t. after_store_true s y (set_of_sum f (difference_of Ac (Cell y))) r ss var (gap_true f s ks y ss h var) t)
      (record { sum = sum_of_name Ac; set = f.set Ac } ∷ record { sum = sum_of_name (Cell y); set = f.set (Cell y) } ∷ f.relations) (
        ap (f.set Ac) (name_val s.ac ss.ac) ∙ h.holds.sets Ac,
        (
          ap (f.set (Cell y)) (name_val (was s (Cell y)) (names_words pl dd start begun s ss (Cell y))) ∙ h.holds.sets (Cell y),
          h.holds.relations,
        ),
      )

  emptied_sets : (f : Fact) (s : State) (ks : Calls) (y : ℕ) → IsState s → Means pl start f s ks → pl.declaration.variable y ≡ true →
      (n : Location) → with_set Ac (one 0) (with_set (Cell y) all_words f.set) n (now s y n) ≡ true
  emptied_sets f s ks y ss h var n =
      cond_both (same n Ac) (one 0) (with_set (Cell y) all_words f.set n) (λ (set : Words). set (now s y n) ≡ true)
      (λ q. ap (λ m. one 0 (now s y m)) (same_name n Ac q))
      (λ q. cond_both (same n (Cell y)) all_words (f.set n) (λ (set : Words). set (now s y n) ≡ true)
      (λ x. lt-ltb (now s y n) 4096 (now_words s y ss n))
      (λ x. ap (f.set n) (updated_values pl.declaration start 0 s.memory y s.ac n x ∙ ac_values pl.declaration start s.ac 0 s.memory n q) ∙ h.holds.sets n))

  -- the fact before relations are added
  abbrev emptied : ℕ → Fact → Fact
  emptied y f = record f { set = with_set Ac (one 0) (with_set (Cell y) all_words f.set); relations = []; chains = [] }

  -- what holds then, and what stays of the fact
  record StoredRight (f g : Fact) (s : State) (y : ℕ) : Type 0 where
    holds : Holds g (now s y) start s.link
    mq : g.mq ≡ f.mq
    link : g.link ≡ f.link
    sites : g.sites ≡ f.sites
    offsets : g.offsets ≡ f.offsets

  stored_right : (f : Fact) (s : State) (ks : Calls) (y : ℕ) → IsState s → Means pl start f s ks → pl.declaration.variable y ≡ true → StoredRight f (stored y f) s y
  stored_right f s ks y ss h var =
      let same_rest : SameButSets (emptied y f) (stored y f) = adding_keeps OfSums (all_after_store y f) (emptied y f) in
      record {
        holds = all_added_is_so OfSums start (emptied y f) (now s y) s.link (all_after_store y f) begun.words (now_words s y ss)
            (record { sets = emptied_sets f s ks y ss h var; relations = tt; chains = tt }) (all_after_store_true f s ks y ss h var);
        mq = same_rest.mq;
        link = same_rest.link;
        sites = same_rest.sites;
        offsets = same_rest.offsets;
      }

  -- ---- by the rules of equations

  copied_for_true : (s : State) (y : ℕ) (r : Relation) → pl.declaration.variable y ≡ true → IsTrueOf (was s) start r → AllTrue (now s y) start (copied_for y r)
  copied_for_true s y r var t =
      cond_both (has_ac r.sum && not (names (Cell y) r.sum)) (record { sum = with_cell_for_ac y r.sum; set = r.set } ∷ []) [] (AllTrue (now s y) start)
      (λ q. let both = and_parts (has_ac r.sum) (not (names (Cell y) r.sum)) q in (cell_true s y r var both.0 (not-true _ both.1) t, tt))
      (λ q. tt)

  copied_right : (f : Fact) (s : State) (ks : Calls) (y : ℕ) → IsState s → Means pl start f s ks → pl.declaration.variable y ≡ true → StoredRight f (copied y (ac_of pl f) f) s y
  copied_right f s ks y ss h var =
      let half : Values = vals pl dd start begun s.ac (updated s.memory y s.ac) in
      let first : Holds (taking (Cell y) (ac_of pl f) f) half start s.link =
      taking_holds (Cell y) (ac_of pl f) start f (was s) half s.link (updated_values pl.declaration start s.ac s.memory y s.ac) (ap (ac_of pl f) (here s y s.ac var) ∙ ac_true pl dd start begun f s ks ss h) h.holds in
      let second : Holds (taking Ac (one 0) (taking (Cell y) (ac_of pl f) f)) (now s y) start s.link =
      taking_holds Ac (one 0) start (taking (Cell y) (ac_of pl f) f) half (now s y) s.link (ac_values pl.declaration start s.ac 0 (updated s.memory y s.ac)) refl first in
      let same_rest : SameButSets (taking Ac (one 0) (taking (Cell y) (ac_of pl f) f)) (copied y (ac_of pl f) f) =
      adding_keeps OfEquations (flat_map (copied_for y) f.relations) (taking Ac (one 0) (taking (Cell y) (ac_of pl f) f)) in
      record {
        holds = all_added_is_so OfEquations start (taking Ac (one 0) (taking (Cell y) (ac_of pl f) f)) (now s y) s.link (flat_map (copied_for y) f.relations) begun.words (now_words s y ss) second
            (true_flat (was s) (now s y) start (copied_for y) (λ r t. copied_for_true s y r var t) f.relations h.holds.relations);
        mq = same_rest.mq;
        link = same_rest.link;
        sites = same_rest.sites;
        offsets = same_rest.offsets;
      }

  -- ---- the step

  abbrev pub deposited_state : State → ℕ → State
  deposited_state s y = record s { ac = 0; link = s.link; pc = plus s.pc 1; memory = updated s.memory y s.ac }

  deposited_word : (s : State) (y : ℕ) → IsState s → IsState (deposited_state s y)
  deposited_word s y ss = record { ac = lit< tt; link = ss.link; mq = ss.mq; pc = plus_lt s.pc 1; words = words_updated s.memory y s.ac ss.ac ss.words }

  -- the one target took the accumulator's word
  dca_one : (f g : Fact) (s : State) (ks : Calls) (p : Words) (y : ℕ) → IsState s → TopIsEntry pl.declaration ks → Means pl start f s ks → y < 4096 → p y ≡ true → pl.declaration.variable y ≡ true → StoredRight f g s y →
      SomeOutcome (LandsIn pl start (deposited_state s y) ks) (goes pl p f (ac_of pl f) (one (plus s.pc 1)) g)
  dca_one f g s ks p y ss top h lt e var right =
      goes_to pl dd start begun p (ac_of pl f) (one (plus s.pc 1)) f g s (deposited_state s y) ks ss (deposited_word s y ss) h
      (means_updated pl dd start begun f g s ks y s.ac 0 (plus s.pc 1) top var h right.holds right.mq right.link right.sites right.offsets)
      (some_target pl dd start begun p y lt e) (some_from 4096 (ac_of pl f) s.ac ss.ac (ac_true pl dd start begun f s ks ss h)) (eq-eqb (plus s.pc 1) (plus s.pc 1) refl)

  dca_many : (f : Fact) (s : State) (ks : Calls) (p : Words) (y : ℕ) → IsState s → TopIsEntry pl.declaration ks → Means pl start f s ks → y < 4096 → p y ≡ true → pl.declaration.variable y ≡ true →
      SomeOutcome (LandsIn pl start (deposited_state s y) ks) (dca_case pl s.pc f p None)
  dca_many f s ks p y ss top h lt e var =
      let half : Values = vals pl dd start begun s.ac (updated s.memory y s.ac) in
      let first : Holds (weakly_updated p (λ a. ac_of pl f) f) half start s.link =
      weakly_updated_holds p (λ a. ac_of pl f) y start f (was s) half s.link lt e (updated_values pl.declaration start s.ac s.memory y s.ac) (ap (ac_of pl f) (here s y s.ac var) ∙ ac_true pl dd start begun f s ks ss h) h.holds in
      let second : Holds (taking Ac (one 0) (weakly_updated p (λ a. ac_of pl f) f)) (now s y) start s.link =
      taking_holds Ac (one 0) start (weakly_updated p (λ a. ac_of pl f) f) half (now s y) s.link (ac_values pl.declaration start s.ac 0 (updated s.memory y s.ac)) refl first in
      goes_to pl dd start begun p all_words (one (plus s.pc 1)) f (taking Ac (one 0) (weakly_updated p (λ a. ac_of pl f) f)) s (deposited_state s y) ks ss (deposited_word s y ss) h
      (means_updated pl dd start begun f (taking Ac (one 0) (weakly_updated p (λ a. ac_of pl f) f)) s ks y s.ac 0 (plus s.pc 1) top var h second refl refl refl refl)
      (some_target pl dd start begun p y lt e) has_all (eq-eqb (plus s.pc 1) (plus s.pc 1) refl)

  stored_by_right : (rules : Rules) (f : Fact) (s : State) (ks : Calls) (y : ℕ) → IsState s → Means pl start f s ks → pl.declaration.variable y ≡ true → StoredRight f (stored_by rules y (ac_of pl f) f) s y
  stored_by_right OfSums f s ks y ss h var = stored_right f s ks y ss h var
  stored_by_right OfEquations f s ks y ss h var = copied_right f s ks y ss h var

  pub dca_step : (f : Fact) (s : State) (ks : Calls) (p : Words) (y : ℕ) → IsState s → TopIsEntry pl.declaration ks → Means pl start f s ks → y < 4096 → p y ≡ true → pl.declaration.variable y ≡ true →
      SomeOutcome (LandsIn pl start (deposited_state s y) ks) (dca_case pl s.pc f p (only p))
  dca_step f s ks p y ss top h lt e var = go (only p) refl
    where
      go : (o : Option ℕ) → only p ≡ o → SomeOutcome (LandsIn pl start (deposited_state s y) ks) (dca_case pl s.pc f p o)
      go None q = dca_many f s ks p y ss top h lt e var
      go (Some z) q =
          let zy : z ≡ y = sym ((only_word p z q).lone y lt e) in
          rw (zy, var) (dca_one f (stored_by pl.rules y (ac_of pl f) f) s ks p y ss top h lt e var (stored_by_right pl.rules f s ks y ss h var))

  -- ---- the running routine's own entry

  -- nothing that is said of names changes but the accumulator's word
  others_kept : (s : State) (y : ℕ) → pl.declaration.variable y ≡ false → KeepsOthers (λ n. same n Ac) (was s) (now s y)
  others_kept s y fixed Ac q = absurd (true≢false q)
  others_kept s y fixed (Cell a) q = hidden_values pl.declaration start 0 s.memory y s.ac fixed (Cell a) refl

  moved_own : (f : Fact) (s : State) (ks : Calls) (y : ℕ) → IsState s → Means pl start f s ks → pl.routine ≡ Some y → AreInReach f (ac_of pl f) → OwnWord (moved (ac_of pl f) f) (updated s.memory y s.ac) ks
  moved_own f s [] y ss h own reach = tt
  moved_own f s (k ∷ ks) y ss h own reach =
      let ky : k.entry ≡ y = (let q : Some k.entry ≡ Some y = sym h.stands.0 ∙ own in cc) in
      let pos : 0 < k.after = h.stands.1 in
      let last : last_site pl.rules ≤ 4094 = last_word pl.rules in
      let high : k.after ≤ last_site pl.rules + 1 = h.stands.2 in
      let site : k.after - 1 < 4096 = omega arith in
      let ac : ac_of pl f s.ac ≡ true = ac_true pl dd start begun f s (k ∷ ks) ss h in
      let both = and_parts (nat_lt (k.after - 1) s.ac) (nat_le s.ac (k.after - 1 + 64)) (reach (k.after - 1) site h.stands.3 s.ac ss.ac ac) in
      let above : k.after - 1 < s.ac = ltb-true (k.after - 1) s.ac both.0 in
      let below : s.ac ≤ k.after - 1 + 64 = leb-true s.ac (k.after - 1 + 64) both.1 in
      let small : s.ac < 4096 = ss.ac in
      let o : ℕ = s.ac - k.after in
      let lo : o < 64 = omega arith in
      let word : s.ac ≡ k.after + o = omega arith in
      let back : minus s.ac (o + 1) ≡ k.after - 1 = omega arith in
      let from : shifted f.sites (o + 1) s.ac ≡ true = shift_true f.sites (o + 1) s.ac small (rw back h.stands.3) in (
        o,
        lo,
        and_from (nat_lt o 64) _ (lt-ltb o 64 lo) (some_from 4096 (meet (shifted f.sites (o + 1)) (ac_of pl f)) s.ac small (and_from (shifted f.sites (o + 1) s.ac) (ac_of pl f s.ac) from ac)),
        (rw ky (updated_same s.memory y s.ac)) ∙ word,
      )

  moved_means : (f : Fact) (s : State) (ks : Calls) (y : ℕ) → IsState s → Means pl start f s ks → pl.declaration.variable y ≡ false → pl.declaration.entry y ≡ true → pl.routine ≡ Some y → AreInReach f (ac_of pl f) →
      Means pl start (moved (ac_of pl f) f) (deposited_state s y) ks
  moved_means f s ks y ss h fixed en own reach =
      let taken : Holds (taking Ac (one 0) f) (now s y) start s.link = taking_holds Ac (one 0) start f (was s) (now s y) s.link (others_kept s y fixed) refl h.holds in
      record {
        holds = record { sets = taken.sets; relations = taken.relations; chains = taken.chains };
        mq = h.mq;
        link = h.link;
        rest = rest_updated pl.declaration start s.memory y s.ac (inr en) h.rest;
        stands = stands_like pl f (moved (ac_of pl f) f) ks refl h.stands;
        own = moved_own f s ks y ss h own reach;
      }

  pub dca_own : (f : Fact) (s : State) (ks : Calls) (y : ℕ) → IsState s → Means pl start f s ks → y < 4096 → pl.declaration.variable y ≡ false → pl.declaration.entry y ≡ true → pl.routine ≡ Some y → AreInReach f (ac_of pl f) →
      SomeOutcome (LandsIn pl start (deposited_state s y) ks) (dca_case pl s.pc f (one y) (only (one y)))
  dca_own f s ks y ss h lt fixed en own reach =
      rw (← direct_only y lt, fixed)
      (goes_to pl dd start begun (one y) (ac_of pl f) (one (plus s.pc 1)) f (moved (ac_of pl f) f) s (deposited_state s y) ks ss (deposited_word s y ss) h
      (moved_means f s ks y ss h fixed en own reach)
      (some_target pl dd start begun (one y) y lt (eq-eqb y y refl)) (some_from 4096 (ac_of pl f) s.ac ss.ac (ac_true pl dd start begun f s ks ss h)) (eq-eqb (plus s.pc 1) (plus s.pc 1) refl))
