-- The steps by JMP, AND and ISZ.
use Rattle.std.proofs.Common.{◌≡◌, ℕ, ◌+◌, ◌<◌, ◌≤◌, ◌==◌, Bool, true, false, ◌&&◌, ◌⊎◌, Option, Some, None, [], ◌∷◌, refl, sym, ap, ◌∙◌, subst, inl, inr, arith, lit<}
use Rattle.std.specs.Prelude.{bit_and}
use Rattle.std.proofs.lemmas.Bool.{and_from, eqb-true, eq-eqb, ne_eqb, true≢false, cases_eq, cases_lt}
use Rattle.wordset.specs.Words.{plus, minus, Words, all_words, one, has_some, without, shifted, only, ands}
use Rattle.wordset.proofs.Firsts.{only_word}
use Rattle.processor.specs.Cells.{Cells, updated, AreWords}
use Rattle.processor.specs.Machine.{State, next_pc}
use Rattle.declaration.specs.Declaration.{IsDeclared}
use Rattle.policy.specs.Calls.{Calls}
use Rattle.domain.specs.Locations.{Ac, Cell, Values, is_routine}
use Rattle.domain.specs.Chains.{Ands}
use Rattle.domain.specs.Facts.{Fact, Place, Rules, OfEquations, OfSums, AllGiven, Holds, OwnWord, StandsIn, Means}
use Rattle.domain.specs.Adding.{with_name}
use Rattle.domain.specs.Narrowing.{words_known}
use Rattle.domain.specs.Moves.{taking, counted, weakly_updated, counted_up}
use Rattle.domain.specs.Laws.{IsBegun, CountsReturn}
use Rattle.domain.proofs.Numbers.{plus_lt, minus_plus}
use Rattle.domain.proofs.MoveLemmas.{taking_holds, weakly_updated_holds, longer_is_so, counted_up_is_so}
use Rattle.facts.specs.States.{IsState, TopIsEntry}
use Rattle.transfer.specs.References.{own_words, words_at}
use Rattle.facts.specs.Conditions.{MayCount}
use Rattle.transfer.specs.Stores.{with_begun}
use Rattle.transfer.specs.Outcomes.{Goes, given, ac_of, alive, chains_after_and, anded, isz_case, jmp}
use Rattle.facts.specs.Laws.{LandsIn, SomeOutcome}
use Rattle.facts.proofs.WordLemmas.{next_word, some_from, has_all, shift_true, and_word, ands_true}
use Rattle.facts.proofs.StateLemmas.{set_at, ac_values, updated_values, hidden_values, value_of, updated_same, words_updated, rest_updated, stands_like, some_given, some_left, some_right, vals, means_like, means_updated, same_step, ac_true, variable_true, own_true, words_at_true, counted_cell_holds, alive_true, goes_to, some_target}
use Rattle.facts.proofs.RelationLemmas.{holds_kept, begun_given}

module _ (pl : Place) (dd : IsDeclared pl.declaration) (start : Cells) (begun : IsBegun pl.image start) where
  pub jmp_step : (f : Fact) (s : State) (ks : Calls) (i : Bool) (c : ℕ) (p : Words) (y : ℕ) → IsState s → Means pl start f s ks → y < 4096 → p y ≡ true →
      (i && is_routine pl.routine c) ≡ false →
      SomeOutcome (LandsIn pl start (record s { pc = y }) ks) (jmp pl i c f p)
  jmp_step f s ks i c p y ss h lt e r =
      rw r (goes_to pl dd start begun p all_words p f f s (record s { pc = y }) ks ss
      (record { ac = ss.ac; link = ss.link; mq = ss.mq; pc = lt; words = ss.words }) h (same_step pl dd start begun f s ks y h)
      (some_target pl dd start begun p y lt e) has_all e)

  -- ---- AND

  anded_chains : (rules : Rules) (f : Fact) (s : State) (ks : Calls) (set : Words) (x : ℕ) → IsState s → Means pl start f s ks → x < 4096 → set x ≡ true → (o : Option ℕ) → only set ≡ o →
      AllGiven (vals pl dd start begun (bit_and s.ac x) s.memory) s.link (chains_after_and rules o f)
  anded_chains rules f s ks set x ss h lt e None q = tt
  anded_chains rules f s ks set x ss h lt e (Some w) q =
      let is : x ≡ w = (only_word set w q).lone x lt e in
      longer_is_so (Ands w) (vals pl dd start begun s.ac s.memory) (vals pl dd start begun (bit_and s.ac x) s.memory) s.link s.link (with_begun rules f)
      (ac_values pl.declaration start s.ac (bit_and s.ac x) s.memory) (ap (λ n. (bit_and s.ac n, s.link)) (sym is))
      (begun_given rules f (vals pl dd start begun s.ac s.memory) start s.link ss.ac ss.link h.link h.holds)

  pub and_step : (f : Fact) (s : State) (ks : Calls) (p : Words) (y : ℕ) → IsState s → Means pl start f s ks → y < 4096 → p y ≡ true →
      SomeOutcome (LandsIn pl start (record s { ac = bit_and s.ac (s.memory y); link = s.link; pc = plus s.pc 1 }) ks) (anded pl s.pc f p)
  and_step f s ks p y ss h lt e =
      let x : ℕ = s.memory y in
      let set : Words = words_at pl f p in
      let v : set x ≡ true = words_at_true pl dd start begun f s ks p y ss h lt e in
      let a : ands (ac_of pl f) set (bit_and s.ac x) ≡ true = ands_true (ac_of pl f) set s.ac x ss.ac (ss.words y) (ac_true pl dd start begun f s ks ss h) v in
      let now : Values = vals pl dd start begun (bit_and s.ac x) s.memory in
      let t : Holds (taking Ac (ands (ac_of pl f) set) f) now start s.link =
      taking_holds Ac (ands (ac_of pl f) set) start f (vals pl dd start begun s.ac s.memory) now s.link (ac_values pl.declaration start s.ac (bit_and s.ac x) s.memory) a h.holds in
      goes_to pl dd start begun p all_words (one (plus s.pc 1)) f
      (record (taking Ac (ands (ac_of pl f) set) f) { chains = chains_after_and pl.rules (only set) f }) s
      (record s { ac = bit_and s.ac x; link = s.link; pc = plus s.pc 1 }) ks ss
      (record { ac = and_word s.ac x ss.ac; link = ss.link; mq = ss.mq; pc = plus_lt s.pc 1; words = ss.words }) h
      (means_like pl dd start begun f (record (taking Ac (ands (ac_of pl f) set) f) { chains = chains_after_and pl.rules (only set) f }) s ks (bit_and s.ac x) s.link s.mq (plus s.pc 1) h
      (record { sets = t.sets; relations = t.relations; chains = anded_chains pl.rules f s ks set x ss h (ss.words y) v (only set) refl })
      h.mq h.link refl refl)
      (some_target pl dd start begun p y lt e) has_all (eq-eqb (plus s.pc 1) (plus s.pc 1) refl)

  -- ---- ISZ

  abbrev pub counted_state : State → ℕ → State
  counted_state s y = record s { pc = next_pc s.pc (plus (s.memory y) 1 == 0); memory = updated s.memory y (plus (s.memory y) 1) }

  counted_word : (s : State) (y : ℕ) → IsState s → IsState (counted_state s y)
  counted_word s y ss = record { ac = ss.ac; link = ss.link; mq = ss.mq; pc = next_word s.pc (plus (s.memory y) 1 == 0); words = words_updated s.memory y (plus (s.memory y) 1) (plus_lt (s.memory y) 1) ss.words }

  -- what the conditions on writes say of a counted cell
  abbrev pub MayBeCounted : Fact → Words → ℕ → Type 0
  MayBeCounted f p y =
      (pl.declaration.variable y ≡ true) ⊎
      ((pl.declaration.variable y ≡ false) × (pl.declaration.entry y ≡ true) × (pl.routine ≡ Some y) × (only p ≡ Some y) × MayCount pl.rules f)

  -- one variable is counted, and its new word is in the set
  counted_means : (f : Fact) (s : State) (ks : Calls) (y pc : ℕ) (set : Words) → IsState s → TopIsEntry pl.declaration ks → Means pl start f s ks → pl.declaration.variable y ≡ true →
      set (plus (s.memory y) 1) ≡ true →
      Means pl start (with_name (Cell y) set (counted pl y f)) (record s { pc = pc; memory = updated s.memory y (plus (s.memory y) 1) }) ks
  counted_means f s ks y pc set ss top h var e =
      let now : Values = vals pl dd start begun s.ac (updated s.memory y (plus (s.memory y) 1)) in
      let m : Holds (counted pl y f) now start s.link = counted_cell_holds pl dd start begun f s ks y ss h var in
      let here : now (Cell y) ≡ plus (s.memory y) 1 = value_of pl.declaration start s.ac (updated s.memory y (plus (s.memory y) 1)) y var ∙ updated_same s.memory y (plus (s.memory y) 1) in
      means_updated pl dd start begun f (with_name (Cell y) set (counted pl y f)) s ks y (plus (s.memory y) 1) s.ac pc top var h
      (record { sets = set_at (Cell y) set (counted pl y f).set now (ap set here ∙ e) (λ n q. m.sets n); relations = m.relations; chains = m.chains }) refl refl refl refl

  zero_test : (x : ℕ) → x < 4096 → ((x ≡ 4095) × ((plus x 1 == 0) ≡ true)) ⊎ ((x ≡ 4095 → ⊥) × ((plus x 1 == 0) ≡ false))
  zero_test x h = elim (cases_eq x 4095) [
    | inl e ↦ inl (e, eq-eqb (plus x 1) 0 (omega arith))
    | inr n ↦ inr (n, ne_eqb (plus x 1) 0 (let no : plus x 1 ≡ 0 → ⊥ = omega arith in no))
  ]

  isz_one : (f : Fact) (s : State) (ks : Calls) (p : Words) (y : ℕ) → IsState s → TopIsEntry pl.declaration ks → Means pl start f s ks → y < 4096 → p y ≡ true →
      pl.declaration.variable y ≡ true → SomeOutcome (LandsIn pl start (counted_state s y) ks) (isz_case pl s.pc f p (Some y))
  isz_one f s ks p y ss top h lt e var = rw var (elim (zero_test (s.memory y) (ss.words y)) [
    | inl z ↦
        (let w : plus (s.memory y) 1 ≡ 0 = eqb-true _ _ z.1 in
        let m : Means pl start (with_name (Cell y) (one 0) (counted pl y f)) (counted_state s y) ks =
        counted_means f s ks y (next_pc s.pc (plus (s.memory y) 1 == 0)) (one 0) ss top h var (eq-eqb (plus (s.memory y) 1) 0 w) in
        some_left (LandsIn pl start (counted_state s y) ks) _ _
        (some_given (LandsIn pl start (counted_state s y) ks) _ _
        (and_from _ _ (subst (λ x. words_known pl f (Cell y) x ≡ true) z.0 (variable_true pl dd start begun f s ks y ss h var))
        (alive_true pl dd start begun p (one 0) f _ s (counted_state s y) ks ss (counted_word s y ss) h m (some_target pl dd start begun p y lt e) (some_from 4096 (one 0) 0 (lit< tt) refl)))
        (rw z.1 (eq-eqb (plus s.pc 2) (plus s.pc 2) refl), m)))
    | inr z ↦
        (let set : Words = without 0 (shifted (words_known pl f (Cell y)) 1) in
        let m : Means pl start (with_name (Cell y) set (counted pl y f)) (counted_state s y) ks =
        counted_means f s ks y (next_pc s.pc (plus (s.memory y) 1 == 0)) set ss top h var (moved_in z.1) in
        some_right (LandsIn pl start (counted_state s y) ks)
        (given (words_known pl f (Cell y) 4095 && alive pl p f (one 0) (with_name (Cell y) (one 0) (counted pl y f))) (Goes (one (plus s.pc 2)) (with_name (Cell y) (one 0) (counted pl y f)))) _
        (goes_to pl dd start begun p set (one (plus s.pc 1)) f (with_name (Cell y) set (counted pl y f)) s (counted_state s y) ks ss (counted_word s y ss) h m
        (some_target pl dd start begun p y lt e) (some_from 4096 set (plus (s.memory y) 1) (plus_lt (s.memory y) 1) (moved_in z.1))
        (rw z.1 (eq-eqb (plus s.pc 1) (plus s.pc 1) refl))))
  ])
    where
      moved_in : (plus (s.memory y) 1 == 0) ≡ false → without 0 (shifted (words_known pl f (Cell y)) 1) (plus (s.memory y) 1) ≡ true
      moved_in q =
          let back : minus (plus (s.memory y) 1) 1 ≡ s.memory y = minus_plus (s.memory y) 1 (ss.words y) in
          rw q (shift_true (words_known pl f (Cell y)) 1 (plus (s.memory y) 1) (plus_lt (s.memory y) 1)
          (ap (words_known pl f (Cell y)) back ∙ variable_true pl dd start begun f s ks y ss h var))

  -- a return word that may be counted once more is not 7777
  not_last : (rules : Rules) (f : Fact) (m : Cells) (y : ℕ) (ks : Calls) → pl.rules ≡ rules → AreWords m → StandsIn pl f ks → OwnWord f m ks → pl.routine ≡ Some y → MayCount rules f → m y < 4095
  not_last rules f m y [] is ws st o r may = absurd (let q : None ≡ Some y = sym st ∙ r in cc)
  not_last OfEquations f m y (k ∷ ks) is ws st o r may =
      let q : Some k.entry ≡ Some y = sym st.0 ∙ r in
      let ky : k.entry ≡ y = cc in
      let word : m y ≡ k.after + o.0 = rw (← ky) o.3 in
      let top : k.after ≤ 4088 = rw is at st.2 in
      let lt : o.0 < 64 = o.1 in
      elim (cases_lt o.0 7) [
        | inl small ↦ omega arith
        | inr big ↦ absurd (true≢false (sym o.2 ∙ may o.0 big lt))
      ]
  not_last OfSums f m y (k ∷ ks) is ws st o r may =
      let own : own_words f (m y) ≡ true = own_true pl dd start begun f m (k ∷ ks) y ws st o (rw r (eq-eqb y y refl)) in
      let not_top : m y ≡ 4095 → ⊥ = λ e. true≢false (sym (ap (own_words f) (sym e) ∙ own) ∙ may.1) in
      let small : m y < 4096 = ws y in
      omega arith

  no_last_offset : (rules : Rules) (f : Fact) → MayCount rules f → f.offsets 63 ≡ false
  no_last_offset OfEquations f may = may 63 (omega arith) (lit< tt)
  no_last_offset OfSums f may = may.0

  counts_return : (f : Fact) (m : Cells) (y : ℕ) (ks : Calls) → StandsIn pl f ks → pl.routine ≡ Some y → plus (m y) 1 ≡ m y + 1 → CountsReturn ks m (updated m y (plus (m y) 1))
  counts_return f m y [] st r up = tt
  counts_return f m y (k ∷ ks) st r up =
      let q : Some k.entry ≡ Some y = sym st.0 ∙ r in
      let ky : k.entry ≡ y = cc in
      rw ky (updated_same m y (plus (m y) 1) ∙ up)

  isz_own : (f : Fact) (s : State) (ks : Calls) (p : Words) (y : ℕ) → IsState s → Means pl start f s ks → y < 4096 → p y ≡ true →
      pl.declaration.variable y ≡ false → pl.declaration.entry y ≡ true → pl.routine ≡ Some y → MayCount pl.rules f → SomeOutcome (LandsIn pl start (counted_state s y) ks) (isz_case pl s.pc f p (Some y))
  isz_own f s ks p y ss h lt e var en r may =
      let low : s.memory y < 4095 = not_last pl.rules f s.memory y ks refl ss.words h.stands h.own r may in
      let up : plus (s.memory y) 1 ≡ s.memory y + 1 = omega arith in
      let nz : (plus (s.memory y) 1 == 0) ≡ false = ne_eqb (plus (s.memory y) 1) 0 (let no : plus (s.memory y) 1 ≡ 0 → ⊥ = omega arith in no) in
      let m : Means pl start (record f { offsets = counted_up f.offsets }) (counted_state s y) ks = record {
        holds = unseen (plus (s.memory y) 1);
        mq = h.mq;
        link = h.link;
        rest = rest_updated pl.declaration start s.memory y (plus (s.memory y) 1) (inr en) h.rest;
        stands = stands_like pl f (record f { offsets = counted_up f.offsets }) ks refl h.stands;
        own = counted_up_is_so f s.memory (updated s.memory y (plus (s.memory y) 1)) ks (no_last_offset pl.rules f may) (counts_return f s.memory y ks h.stands r up) h.own;
      } in
      rw var (goes_to pl dd start begun p all_words (one (plus s.pc 1)) f (record f { offsets = counted_up f.offsets }) s (counted_state s y) ks ss (counted_word s y ss) h m
      (some_target pl dd start begun p y lt e) has_all (rw nz (eq-eqb (plus s.pc 1) (plus s.pc 1) refl)))
    where
      -- what is not a variable may be written unseen
      unseen : (n : ℕ) → Holds (record f { offsets = counted_up f.offsets }) (vals pl dd start begun s.ac (updated s.memory y n)) start s.link
      unseen n =
          let t : Holds f (vals pl dd start begun s.ac (updated s.memory y n)) start s.link =
          holds_kept f (vals pl dd start begun s.ac s.memory) (vals pl dd start begun s.ac (updated s.memory y n)) start s.link
          (hidden_values pl.declaration start s.ac s.memory y n var) h.holds in
          record { sets = t.sets; relations = t.relations; chains = t.chains }

  isz_many : (f : Fact) (s : State) (ks : Calls) (p : Words) (y : ℕ) → IsState s → TopIsEntry pl.declaration ks → Means pl start f s ks → y < 4096 → p y ≡ true →
      pl.declaration.variable y ≡ true → SomeOutcome (LandsIn pl start (counted_state s y) ks) (isz_case pl s.pc f p None)
  isz_many f s ks p y ss top h lt e var = elim (zero_test (s.memory y) (ss.words y)) [
    | inl z ↦ some_left (LandsIn pl start (counted_state s y) ks) _ _
        (some_given (LandsIn pl start (counted_state s y) ks) _ _
        (and_from _ _
        (some_from 4096 (λ a. p a && words_known pl f (Cell a) 4095) y lt
        (and_from _ _ e (subst (λ x. words_known pl f (Cell y) x ≡ true) z.0 (variable_true pl dd start begun f s ks y ss h var))))
        (alive_true pl dd start begun p all_words f after s (counted_state s y) ks ss (counted_word s y ss) h (means _) (some_target pl dd start begun p y lt e) has_all))
        (rw z.1 (eq-eqb (plus s.pc 2) (plus s.pc 2) refl), means _))
    | inr z ↦ some_right (LandsIn pl start (counted_state s y) ks) _ _
        (some_given (LandsIn pl start (counted_state s y) ks) _ _
        (and_from _ _
        (some_from 4096 (λ a. p a && has_some (without 4095 (words_known pl f (Cell a)))) y lt
        (and_from _ _ e (some_from 4096 (without 4095 (words_known pl f (Cell y))) (s.memory y) (ss.words y) (let q : (s.memory y == 4095) ≡ false = ne_eqb (s.memory y) 4095 z.0 in rw q (variable_true pl dd start begun f s ks y ss h var)))))
        (alive_true pl dd start begun p all_words f after s (counted_state s y) ks ss (counted_word s y ss) h (means _) (some_target pl dd start begun p y lt e) has_all))
        (rw z.1 (eq-eqb (plus s.pc 1) (plus s.pc 1) refl), means _))
  ]
    where
      after : Fact
      after = weakly_updated p (λ a. shifted (f.set (Cell a)) 1) f

      here : shifted (f.set (Cell y)) 1 (vals pl dd start begun s.ac (updated s.memory y (plus (s.memory y) 1)) (Cell y)) ≡ true
      here =
          let v : vals pl dd start begun s.ac (updated s.memory y (plus (s.memory y) 1)) (Cell y) ≡ plus (s.memory y) 1 =
          value_of pl.declaration start s.ac (updated s.memory y (plus (s.memory y) 1)) y var ∙ updated_same s.memory y (plus (s.memory y) 1) in
          let back : minus (plus (s.memory y) 1) 1 ≡ s.memory y = minus_plus (s.memory y) 1 (ss.words y) in
          let was : vals pl dd start begun s.ac s.memory (Cell y) ≡ s.memory y = value_of pl.declaration start s.ac s.memory y var in
          ap (shifted (f.set (Cell y)) 1) v ∙ shift_true (f.set (Cell y)) 1 (plus (s.memory y) 1) (plus_lt (s.memory y) 1) (ap (f.set (Cell y)) (back ∙ sym was) ∙ h.holds.sets (Cell y))

      means : (pc : ℕ) → Means pl start after (record s { pc = pc; memory = updated s.memory y (plus (s.memory y) 1) }) ks
      means pc = means_updated pl dd start begun f after s ks y (plus (s.memory y) 1) s.ac pc top var h
          (weakly_updated_holds p (λ a. shifted (f.set (Cell a)) 1) y start f (vals pl dd start begun s.ac s.memory) (vals pl dd start begun s.ac (updated s.memory y (plus (s.memory y) 1))) s.link
          lt e (updated_values pl.declaration start s.ac s.memory y (plus (s.memory y) 1)) here h.holds) refl refl refl refl

  pub isz_step : (f : Fact) (s : State) (ks : Calls) (p : Words) (y : ℕ) → IsState s → TopIsEntry pl.declaration ks → Means pl start f s ks → y < 4096 → p y ≡ true →
      MayBeCounted f p y → SomeOutcome (LandsIn pl start (counted_state s y) ks) (isz_case pl s.pc f p (only p))
  isz_step f s ks p y ss top h lt e may = go (only p) refl
    where
      go : (o : Option ℕ) → only p ≡ o → SomeOutcome (LandsIn pl start (counted_state s y) ks) (isz_case pl s.pc f p o)
      go None q = elim may [
        | inl var ↦ isz_many f s ks p y ss top h lt e var
        | inr m ↦ absurd (let w : None ≡ Some y = sym q ∙ m.3 in cc)
      ]
      go (Some z) q =
          let zy : z ≡ y = sym ((only_word p z q).lone y lt e) in
          rw zy (elim may [
            | inl var ↦ isz_one f s ks p y ss top h lt e var
            | inr m ↦ isz_own f s ks p y ss h lt e m.0 m.1 m.2 m.4
          ])
