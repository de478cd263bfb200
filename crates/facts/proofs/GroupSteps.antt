-- The steps by words of group 1 and group 2.
use Rattle.std.proofs.Common.{◌≡◌, ℕ, ◌-◌, ◌<◌, ◌==◌, Bool, true, false, not, ◌&&◌, ◌||◌, List, [], refl, sym, ap, ◌∙◌, subst, inl, inr, lit<}
use Rattle.std.specs.Prelude.{if◌then◌else◌, bit_or, flat_map}
use Rattle.std.proofs.lemmas.Bool.{and_from, cond_both, eq-eqb, cases_eq, false_from_ne_true, or_parts}
use Rattle.instruct.specs.Bits.{has_bit}
use Rattle.instruct.specs.Operates.{operate2_of, skips_of}
use Rattle.wordset.specs.Words.{plus, Words, all_words, one, some_below, or_any, images}
use Rattle.processor.specs.Cells.{Cells}
use Rattle.processor.specs.Machine.{State, next_pc}
use Rattle.declaration.specs.Declaration.{IsDeclared}
use Rattle.policy.specs.Calls.{Calls}
use Rattle.domain.specs.Locations.{Ac, same, Values}
use Rattle.domain.specs.Chains.{Operates}
use Rattle.domain.specs.Facts.{Relation, Fact, Place, Rules, OfEquations, OfSums, AllTrue, AllGiven, Holds, Means}
use Rattle.domain.specs.Adding.{with_name, is_kept, is_void}
use Rattle.domain.specs.Narrowing.{narrowed}
use Rattle.domain.specs.Moves.{free_of, taking}
use Rattle.domain.specs.Laws.{IsBegun}
use Rattle.domain.proofs.Numbers.{plus_lt}
use Rattle.domain.proofs.NarrowingLemmas.{narrowed_holds, void_never_holds}
use Rattle.domain.proofs.MoveLemmas.{longer_is_so, free_true}
use Rattle.facts.specs.States.{IsState}
use Rattle.transfer.specs.Additions.{complemented, incremented, turned}
use Rattle.transfer.specs.Stores.{with_begun}
use Rattle.transfer.specs.Outcomes.{Successor, ac_of, goes, with_link}
use Rattle.transfer.specs.Operations.{ac_after, link_after, moves_bits, relations_operated, chains_operated, operated, images_under, operated_under, all_operated1, part2, tested, cleared2, may_be, operated2, all_operated2}
use Rattle.facts.specs.Laws.{LandsIn, SomeOutcome}
use Rattle.facts.proofs.WordLemmas.{bit_one, next_word, some_from, has_all, image_true, ac_plain, ac_after_word, link_after_bit, operate2_word, or_word_true}
use Rattle.facts.proofs.StateLemmas.{set_at, ac_values, some_given, some_left, some_right, vals, means_like, same_step, ac_true, alive_true, goes_to}
use Rattle.facts.proofs.RelationLemmas.{true_flat, true_filter, complemented_true, incremented_true, begun_given}
use Rattle.facts.proofs.OperateSteps.{ac_means}

module _ (pl : Place) (dd : IsDeclared pl.declaration) (start : Cells) (begun : IsBegun pl.image start) where
  -- ---- group 1

  -- the words of AC and the link after the word, where the link is as it is then
  image_under_true : (w : ℕ) (ac links : Words) (a l : ℕ) → a < 4096 → l < 2 → ac a ≡ true → links l ≡ true → images_under w (link_after w a l) ac links (ac_after w a l) ≡ true
  image_under_true w ac links a l h b p q =
      some_from 2 (λ k. links k && some_below 4096 (λ x. ac x && ((ac_after w x k == ac_after w a l) && (link_after w x k == link_after w a l)))) l b
      (and_from _ _ q
      (some_from 4096 (λ x. ac x && ((ac_after w x l == ac_after w a l) && (link_after w x l == link_after w a l))) a h
      (and_from _ _ p (and_from _ _ (eq-eqb (ac_after w a l) (ac_after w a l) refl) (eq-eqb (link_after w a l) (link_after w a l) refl)))))

  -- the relations after CMA and IAC
  turned_true : (w : ℕ) (m : Cells) (a b : ℕ) (rs : List Relation) → a < 4096 →
      b ≡ (let x : ℕ = if has_bit 5 w then 4095 - a else a in if has_bit 0 w then plus x 1 else x) →
      AllTrue (vals pl dd start begun a m) start rs → AllTrue (vals pl dd start begun b m) start (turned w rs)
  turned_true w m a b rs h e t = second (has_bit 0 w) (if has_bit 5 w then 4095 - a else a) (if has_bit 5 w then flat_map complemented rs else rs) (first (has_bit 5 w)) e
    where
      first : (q : Bool) → AllTrue (vals pl dd start begun (if q then 4095 - a else a) m) start (if q then flat_map complemented rs else rs)
      first true =
          true_flat (vals pl dd start begun a m) (vals pl dd start begun (4095 - a) m) start complemented
          (λ r u. complemented_true (vals pl dd start begun a m) (vals pl dd start begun (4095 - a) m) start r (ac_values pl.declaration start a (4095 - a) m) h refl u) rs t
      first false = t

      second : (q : Bool) (x : ℕ) (gs : List Relation) → AllTrue (vals pl dd start begun x m) start gs → b ≡ (if q then plus x 1 else x) →
          AllTrue (vals pl dd start begun b m) start (if q then flat_map incremented gs else gs)
      second true x gs u is =
          true_flat (vals pl dd start begun x m) (vals pl dd start begun b m) start incremented
          (λ r y. incremented_true (vals pl dd start begun x m) (vals pl dd start begun b m) start r (ac_values pl.declaration start x b m) is y) gs u
      second false x gs u is = subst (λ n. AllTrue (vals pl dd start begun n m) start gs) (sym is) u

  relations_true : (rules : Rules) (w : ℕ) (m : Cells) (a l : ℕ) (rs : List Relation) → a < 4096 →
      AllTrue (vals pl dd start begun a m) start rs → AllTrue (vals pl dd start begun (ac_after w a l) m) start (relations_operated rules w rs)
  relations_true rules w m a l rs h t =
      cond_both (has_bit 7 w || moves_bits w) (free_of (λ n. same n Ac) rs) _ (AllTrue (vals pl dd start begun (ac_after w a l) m) start)
      (λ q. free_true (λ n. same n Ac) start (vals pl dd start begun a m) (vals pl dd start begun (ac_after w a l) m) rs (ac_values pl.declaration start a (ac_after w a l) m) t)
      (λ q.
      let both = or_parts (has_bit 7 w) (moves_bits w) q in
      true_filter (vals pl dd start begun (ac_after w a l) m) start (λ r. is_kept rules r.sum r.set) (turned w rs)
      (turned_true w m a (ac_after w a l) rs h (ac_plain w a l both.0 both.1) t))

  chains_true : (rules : Rules) (w : ℕ) (f : Fact) (m : Cells) (a l : ℕ) → a < 4096 → l < 2 → f.link l ≡ true → Holds f (vals pl dd start begun a m) start l →
      AllGiven (vals pl dd start begun (ac_after w a l) m) (link_after w a l) (chains_operated rules w f)
  unfolding ac_after link_after
  chains_true rules w f m a l h b q t =
      cond_both (has_bit 7 w) [] _ (AllGiven (vals pl dd start begun (ac_after w a l) m) (link_after w a l)) (λ e. tt)
      (λ e. longer_is_so (Operates w) (vals pl dd start begun a m) (vals pl dd start begun (ac_after w a l) m) l (link_after w a l) (if moves_bits w then with_begun rules f else f.chains)
      (ac_values pl.declaration start a (ac_after w a l) m) refl
      (cond_both (moves_bits w) (with_begun rules f) f.chains (AllGiven (vals pl dd start begun a m) l)
      (λ x. begun_given rules f (vals pl dd start begun a m) start l h b q t) (λ x. t.chains)))

  abbrev pub operated1_state : ℕ → State → State
  operated1_state w s = record s { ac = ac_after w s.ac s.link; link = link_after w s.ac s.link; pc = plus s.pc 1 }

  operated1_word : (w : ℕ) (s : State) → IsState s → IsState (operated1_state w s)
  operated1_word w s ss = record { ac = ac_after_word w s.ac s.link ss.ac ss.link; link = link_after_bit w s.ac s.link ss.ac ss.link; mq = ss.mq; pc = plus_lt s.pc 1; words = ss.words }

  operated1_means : (rules : Rules) (w : ℕ) (f : Fact) (s : State) (ks : Calls) (set links : Words) → IsState s → Means pl start f s ks →
      set (ac_after w s.ac s.link) ≡ true → links (link_after w s.ac s.link) ≡ true →
      Means pl start (with_link links (with_name Ac set (operated rules w f))) (operated1_state w s) ks
  operated1_means rules w f s ks set links ss h e l =
      let now : Values = vals pl dd start begun (ac_after w s.ac s.link) s.memory in
      means_like pl dd start begun f (with_link links (with_name Ac set (operated rules w f))) s ks (ac_after w s.ac s.link) (link_after w s.ac s.link) s.mq (plus s.pc 1) h
      (record {
        sets = set_at Ac set f.set now e (λ n q. subst (λ x. f.set n x ≡ true) (sym (ac_values pl.declaration start s.ac (ac_after w s.ac s.link) s.memory n q)) (h.holds.sets n));
        relations = relations_true rules w s.memory s.ac s.link f.relations ss.ac h.holds.relations;
        chains = chains_true rules w f s.memory s.ac s.link ss.ac ss.link h.link h.holds;
      })
      h.mq l refl refl

  under_step : (w : ℕ) (f : Fact) (s : State) (ks : Calls) (l : ℕ) → IsState s → Means pl start f s ks → l ≡ link_after w s.ac s.link →
      SomeOutcome (LandsIn pl start (operated1_state w s) ks) (goes pl all_words f all_words (one (plus s.pc 1)) (operated_under w f l))
  under_step w f s ks l ss h e =
      goes_to pl dd start begun all_words all_words (one (plus s.pc 1)) f (operated_under w f l) s (operated1_state w s) ks ss (operated1_word w s ss) h
      (operated1_means OfSums w f s ks (images_under w l (f.set Ac) f.link) (one l) ss h
      (subst (λ x. images_under w x (f.set Ac) f.link (ac_after w s.ac s.link) ≡ true) (sym e) (image_under_true w (f.set Ac) f.link s.ac s.link ss.ac ss.link (h.holds.sets Ac) h.link))
      (eq-eqb (link_after w s.ac s.link) l (sym e)))
      has_all has_all (eq-eqb (plus s.pc 1) (plus s.pc 1) refl)

  pub operate1_step : (rules : Rules) (w : ℕ) (f : Fact) (s : State) (ks : Calls) → IsState s → Means pl start f s ks →
      SomeOutcome (LandsIn pl start (operated1_state w s) ks) (all_operated1 rules pl s.pc w f)
  operate1_step OfSums w f s ks ss h = elim (cases_eq (link_after w s.ac s.link) 0) [
    | inl z ↦ some_left (LandsIn pl start (operated1_state w s) ks) (goes pl all_words f all_words (one (plus s.pc 1)) (operated_under w f 0)) _ (under_step w f s ks 0 ss h (sym z))
    | inr n ↦ some_right (LandsIn pl start (operated1_state w s) ks) (goes pl all_words f all_words (one (plus s.pc 1)) (operated_under w f 0)) _
        (under_step w f s ks 1 ss h (bit_one (link_after w s.ac s.link) (link_after_bit w s.ac s.link ss.ac ss.link) n))
  ]
  operate1_step OfEquations w f s ks ss h =
      goes_to pl dd start begun all_words all_words (one (plus s.pc 1)) f _ s (operated1_state w s) ks ss (operated1_word w s ss) h
      (operated1_means OfEquations w f s ks (images (ac_after w) (ac_of pl f) f.link) (images (link_after w) (ac_of pl f) f.link) ss h
      (image_true (ac_after w) (ac_of pl f) f.link s.ac s.link ss.ac ss.link (ac_true pl dd start begun f s ks ss h) h.link)
      (image_true (link_after w) (ac_of pl f) f.link s.ac s.link ss.ac ss.link (ac_true pl dd start begun f s ks ss h) h.link))
      has_all has_all (eq-eqb (plus s.pc 1) (plus s.pc 1) refl)

  -- ---- group 2

  part_true : (w : ℕ) (f : Fact) (s : State) (ks : Calls) → IsState s → Means pl start f s ks → part2 pl w f s.link (skips_of w s.ac s.link) s.ac ≡ true
  part_true w f s ks ss h = and_from _ _ (ac_true pl dd start begun f s ks ss h) (let b : Bool = skips_of w s.ac s.link in cond_both b b (not b) (λ x. x ≡ true) (λ q. q) (λ q. ap not q))

  -- AC's set is narrowed to one that has its word, and the link is this one
  chosen_means : (f : Fact) (s : State) (ks : Calls) (part : Words) (l : ℕ) → Means pl start f s ks → part s.ac ≡ true → l ≡ s.link → Means pl start (with_link (one l) (with_name Ac part f)) s ks
  chosen_means f s ks part l h e el = record {
    holds = record { sets = set_at Ac part f.set (vals pl dd start begun s.ac s.memory) e (λ n q. h.holds.sets n); relations = h.holds.relations; chains = h.holds.chains };
    mq = h.mq;
    link = eq-eqb s.link l (sym el);
    rest = h.rest;
    stands = h.stands;
    own = h.own;
  }

  tested_means : (rules : Rules) (w : ℕ) (f : Fact) (s : State) (ks : Calls) (part : Words) (l : ℕ) → IsState s → Means pl start f s ks → part s.ac ≡ true → l ≡ s.link →
      Means pl start (tested rules pl w f part l) s ks
  tested_means OfEquations w f s ks part l ss h e el = chosen_means f s ks part l h e el
  tested_means OfSums w f s ks part l ss h e el =
      let m : Means pl start (with_link (one l) (with_name Ac part f)) s ks = chosen_means f s ks part l h e el in
      cond_both (has_bit 7 w || has_bit 2 w) (narrowed pl.image (with_link (one l) (with_name Ac part f))) (with_link (one l) (with_name Ac part f)) (λ (g : Fact). Means pl start g s ks)
      (λ q. narrowed_holds pl start (with_link (one l) (with_name Ac part f)) s ks begun ss.words ss.ac ss.link m) (λ q. m)

  -- the state after a word of group 2, by whether it skips
  abbrev pub operated2_state : ℕ → State → ℕ → Bool → State
  operated2_state w s v b = record s { ac = operate2_of w s.ac v; pc = next_pc s.pc b }

  cleared2_means : (w : ℕ) (g : Fact) (s : State) (ks : Calls) (v pc : ℕ) → IsState s → Means pl start g s ks → v < 4096 →
      Means pl start (cleared2 w g) (record s { ac = operate2_of w s.ac v; pc = pc }) ks
  cleared2_means w g s ks v pc ss h lt = go (has_bit 2 w) (has_bit 7 w)
    where
      at : (x : ℕ) → State
      at x = record s { ac = x; pc = pc }

      go : (p q : Bool) → Means pl start
          (if p then taking Ac (or_any 4095 (if q then one 0 else g.set Ac)) g else (if q then taking Ac (one 0) g else g))
          (at (if p then bit_or (if q then 0 else s.ac) v else (if q then 0 else s.ac))) ks
      go true true = ac_means pl dd start begun g s ks (or_any 4095 (one 0)) _ pc h (or_word_true (one 0) 0 v (lit< tt) lt refl)
      go true false = ac_means pl dd start begun g s ks (or_any 4095 (g.set Ac)) _ pc h (or_word_true (g.set Ac) s.ac v ss.ac lt (h.holds.sets Ac))
      go false true = ac_means pl dd start begun g s ks (one 0) 0 pc h refl
      go false false = same_step pl dd start begun g s ks pc h

  not_void : (rules : Rules) (g : Fact) (s : State) (ks : Calls) → IsState s → Means pl start g s ks → may_be rules g ≡ true
  not_void OfEquations g s ks ss h = refl
  not_void OfSums g s ks ss h = ap not (false_from_ne_true (is_void g) (λ e. void_never_holds pl start g s ks begun.words ss.words ss.ac ss.link ss.mq e h))

  operated2_step : (w : ℕ) (f : Fact) (s : State) (ks : Calls) (v l : ℕ) (b : Bool) → IsState s → Means pl start f s ks → v < 4096 → l ≡ s.link → b ≡ skips_of w s.ac s.link →
      SomeOutcome (LandsIn pl start (operated2_state w s v b) ks) (operated2 pl s.pc w f l b)
  operated2_step w f s ks v l b ss h lt el eb =
      let part : part2 pl w f l b s.ac ≡ true = rw (el, eb) (part_true w f s ks ss h) in
      let before : Fact = tested pl.rules pl w f (part2 pl w f l b) l in
      let was : Means pl start before s ks = tested_means pl.rules w f s ks (part2 pl w f l b) l ss h part el in
      let m : Means pl start (cleared2 w before) (operated2_state w s v b) ks = cleared2_means w before s ks v (next_pc s.pc b) ss was lt in
      let ts : IsState (operated2_state w s v b) = record { ac = operate2_word w s.ac v ss.ac lt; link = ss.link; mq = ss.mq; pc = next_word s.pc b; words = ss.words } in
      some_given (LandsIn pl start (operated2_state w s v b) ks) _ _
      (and_from _ _ (ap f.link el ∙ h.link) (and_from _ _ (some_from 4096 (part2 pl w f l b) s.ac ss.ac part)
      (and_from _ _ (not_void pl.rules before s ks ss was)
      (alive_true pl dd start begun all_words all_words f (cleared2 w before) s (operated2_state w s v b) ks ss ts h m has_all has_all))))
      (eq-eqb (next_pc s.pc b) (next_pc s.pc b) refl, m)

  pub operate2_step : (w : ℕ) (f : Fact) (s : State) (ks : Calls) (v : ℕ) → IsState s → Means pl start f s ks → v < 4096 →
      SomeOutcome (LandsIn pl start (operated2_state w s v (skips_of w s.ac s.link)) ks) (all_operated2 pl s.pc w f)
  operate2_step w f s ks v ss h lt = elim (cases_eq s.link 0) [
    | inl z ↦ zero_case (skips_of w s.ac s.link) refl (sym z)
    | inr n ↦ one_case (skips_of w s.ac s.link) refl (bit_one s.link ss.link n)
  ]
    where
      zero_case : (b : Bool) → b ≡ skips_of w s.ac s.link → 0 ≡ s.link → SomeOutcome (LandsIn pl start (operated2_state w s v b) ks) (all_operated2 pl s.pc w f)
      zero_case true e z = some_left (LandsIn pl start (operated2_state w s v true) ks) _ _ (operated2_step w f s ks v 0 true ss h lt z e)
      zero_case false e z = some_right (LandsIn pl start (operated2_state w s v false) ks) (operated2 pl s.pc w f 0 true) _ (some_left (LandsIn pl start (operated2_state w s v false) ks) _ _ (operated2_step w f s ks v 0 false ss h lt z e))

      one_case : (b : Bool) → b ≡ skips_of w s.ac s.link → 1 ≡ s.link → SomeOutcome (LandsIn pl start (operated2_state w s v b) ks) (all_operated2 pl s.pc w f)
      one_case true e z =
          let p : Successor → Type 0 = LandsIn pl start (operated2_state w s v true) ks in
          some_right p (operated2 pl s.pc w f 0 true) _ (some_right p (operated2 pl s.pc w f 0 false) _ (some_left p _ _ (operated2_step w f s ks v 1 true ss h lt z e)))
      one_case false e z =
          let p : Successor → Type 0 = LandsIn pl start (operated2_state w s v false) ks in
          some_right p (operated2 pl s.pc w f 0 true) _ (some_right p (operated2 pl s.pc w f 0 false) _ (some_right p (operated2 pl s.pc w f 1 true) _ (operated2_step w f s ks v 1 false ss h lt z e)))
