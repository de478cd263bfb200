-- What changes leave of a fact that held.
use Rattle.std.proofs.Common.{◌≡◌, ℕ, ◌+◌, ◌-◌, ◌*◌, ◌%◌, ◌<◌, ◌==◌, Bool, true, false, ◌&&◌, Option, Some, None, List, [], ◌∷◌, ◌++◌, map, refl, sym, ◌∙◌, ap, subst, inl, inr, arith, lit<}
use Rattle.std.specs.Prelude.{if◌then◌else◌, not, filter}
use Rattle.std.proofs.Math.Nat.{add-mod-mod}
use Rattle.std.proofs.lemmas.Bool.{and_parts, and_from, or_parts, or_left, or_right, cond_both, cases_eq, eqb-true, eqb-false, eq-eqb, ne_eqb, true≢false, false≢true, not-true, not-false, lt-ltb}
use Rattle.wordset.specs.Words.{plus, minus, Words, one, some_below, union, shifted, sums, only}
use Rattle.wordset.proofs.Tests.{IsSome, some_from, some_to}
use Rattle.wordset.proofs.Firsts.{IsOnly, only_word}
use Rattle.processor.specs.Cells.{Cells, AreWords}
use Rattle.domain.specs.Locations.{Location, Ac, Cell, same, Values, has_cell, is_outside}
use Rattle.domain.specs.Terms.{Term, Holding, Behind, Sum, term_value, sum_value, name_of_term, speaks_of, same_term, coefficient_in}
use Rattle.domain.specs.Chains.{Step, after_step, after_steps, Chain, is_pair_of, gives, longer, after_count}
use Rattle.domain.specs.Facts.{Relation, Fact, Rules, OfEquations, OfSums, IsTrueOf, AllTrue, AllGiven, Holds}
use Rattle.domain.specs.Adding.{times}
use Rattle.domain.specs.Narrowing.{words_known}
use Rattle.domain.specs.Moves.{free_of, chains_free_of, counted_term, counted_sum, is_behind, has_behind, moved_relation, moved_relations, cells_of, weakly_updated_sets, outside, words_outside, joined_relations, joined}
use Rattle.domain.specs.Laws.{AreValues, KeepsOthers, FreeStaysTrue, TakingHolds, GoesUp, MovedIsSo, AllMovedIsSo, ChainsAreCounted, CountedHolds, WeaklyUpdatedHolds, LongerIsSo, SameButSets, JoinedFactHolds, JoinedKeeps, CountedUpIsSo}
use Rattle.domain.proofs.Numbers.{plus_first, product_word, product_second, shifted_in, sums_in, times_in}
use Rattle.domain.proofs.SumLemmas.{same_name, same_is, val_lt}
use Rattle.domain.proofs.AddingLemmas.{all_append, all_added, adding_keeps}
use Rattle.domain.proofs.NarrowingLemmas.{known_is_so}

-- ---- what speaks of none of the names that changed

term_kept : (names : Location → Bool) (start : Cells) (v w : Values) (t : Term) → KeepsOthers names v w → names (name_of_term t) ≡ false → term_value w start t ≡ term_value v start t
term_kept names start v w (Holding n) keeps e = keeps n e
term_kept names start v w (Behind x k) keeps e = ap (λ u. start (plus u k)) (keeps (Cell x) e)

pub sum_kept : (names : Location → Bool) (start : Cells) (v w : Values) (l : Sum) → KeepsOthers names v w → speaks_of names l ≡ false → sum_value w start l ≡ sum_value v start l
sum_kept names start v w [] keeps e = refl
sum_kept names start v w (s ∷ ss) keeps e =
    let p = or_parts (names (name_of_term s.term)) (speaks_of names ss) e in
    ap (λ x. plus (s.coefficient * x) (sum_value w start ss)) (term_kept names start v w s.term keeps p.0) ∙
    ap (λ x. plus (s.coefficient * term_value v start s.term) x) (sum_kept names start v w ss keeps p.1)

pub free_true : (names : Location → Bool) (start : Cells) (v w : Values) (rs : List Relation) → KeepsOthers names v w → AllTrue v start rs → AllTrue w start (free_of names rs)
free_true names start v w [] keeps h = tt
free_true names start v w (r ∷ rs) keeps h =
    cond_both (not (speaks_of names r.sum)) (r ∷ free_of names rs) (free_of names rs) (λ (l : List Relation). AllTrue w start l)
    (λ e. (ap r.set (sum_kept names start v w r.sum keeps (not-true (speaks_of names r.sum) e)) ∙ h.0, free_true names start v w rs keeps h.1))
    (λ e. free_true names start v w rs keeps h.1)

-- a chain of the same words
given_kept : (c : Chain) (x y a b link : ℕ) → y ≡ x → b ≡ a → gives c x a link ≡ true → gives c y b link ≡ true
given_kept c x y a b link e q h = ap (λ u. gives c u b link) e ∙ (ap (λ u. gives c x u link) q ∙ h)

pub chains_free_true : (names : Location → Bool) (v w : Values) (link : ℕ) (cs : List Chain) → KeepsOthers names v w → AllGiven v link cs → AllGiven w link (chains_free_of names cs)
chains_free_true names v w link cs keeps h = cond_both (names Ac) [] (filter (λ c. not (names (Cell c.cell))) cs) (λ (l : List Chain). AllGiven w link l) (λ e. tt) (λ e. rest e cs h)
  where
    rest : names Ac ≡ false → (cs : List Chain) → AllGiven v link cs → AllGiven w link (filter (λ c. not (names (Cell c.cell))) cs)
    rest e [] h = tt
    rest e (c ∷ cs) h =
        cond_both (not (names (Cell c.cell))) (c ∷ filter (λ c. not (names (Cell c.cell))) cs) (filter (λ c. not (names (Cell c.cell))) cs) (λ (l : List Chain). AllGiven w link l)
        (λ q. (given_kept c (v (Cell c.cell)) (w (Cell c.cell)) (v Ac) (w Ac) link (keeps (Cell c.cell) (not-true (names (Cell c.cell)) q)) (keeps Ac e) h.0, rest e cs h.1))
        (λ q. rest e cs h.1)

pub free_stays_true : FreeStaysTrue
free_stays_true = record { relations = free_true; chains = chains_free_true }

pub taking_holds : TakingHolds
taking_holds n set start f v w link keeps p h = record {
  sets = λ m. cond_both (same m n) set (f.set m) (λ (x : Words). x (w m) ≡ true)
      (λ e. subst (λ (z : Location). set (w z) ≡ true) (sym (same_name m n e)) p)
      (λ e. ap (f.set m) (keeps m e) ∙ h.sets m);
  relations = free_true (λ m. same m n) start v w f.relations keeps h.relations;
  chains = chains_free_true (λ m. same m n) v w link f.chains keeps h.chains;
}

-- ---- a cell that goes up

module _ (a d : ℕ) (start : Cells) (v w : Values) (up : GoesUp a d v w) where
  abbrev pub coefficient : Sum → ℕ
  coefficient l = coefficient_in (Holding (Cell a)) l

  -- another name keeps its word
  other_name : (n : Location) → same_term (Holding (Cell a)) (Holding n) ≡ false → w n ≡ v n
  other_name Ac e = up.others Ac refl
  other_name (Cell b) e = up.others (Cell b) (ne_eqb b a (λ q. eqb-false a b e (sym q)))

  -- what stands behind a cell keeps its word
  behind : (x k : ℕ) → term_value w start (counted_term a d (Behind x k)) ≡ term_value v start (Behind x k)
  behind x k = cond_both (x == a) (minus k d) k (λ (m : ℕ). start (plus (w (Cell x)) m) ≡ start (plus (v (Cell x)) k))
      (λ e. let q : x ≡ a = eqb-true x a e in ap start (ap (λ b. plus (w (Cell b)) (minus k d)) q ∙ (ap (λ u. plus u (minus k d)) up.more ∙ (back (v (Cell a)) k d ∙ ap (λ b. plus (v (Cell b)) k) (sym q)))))
      (λ e. ap (λ u. start (plus u k)) (up.others (Cell x) e))
    where
      back : (x k d : ℕ) → plus (plus x d) (minus k d) ≡ plus x k
      back x k d = omega arith

  -- one summand of the cell goes up by d times its coefficient
  more : (c x m r : ℕ) → plus (c * plus x d) (plus r (m * d)) ≡ plus (plus (c * x) r) (plus c m * d)
  more c x m r =
      add-mod-mod (c * plus x d) (r + m * d) 4096 ∙ (product_word c (x + d) (r + m * d) ∙ (ap (λ z. z % 4096) sorted ∙
      sym (plus_first (c * x + r) (plus c m * d) ∙ product_second (c * x + r) (c + m) d)))
    where
      sorted : c * (x + d) + (r + m * d) ≡ c * x + r + (c + m) * d
      sorted = omega arith

  same_more : (c x m r : ℕ) → plus (c * x) (plus r (m * d)) ≡ plus (plus (c * x) r) (m * d)
  same_more c x m r = omega arith

  -- the sum of the same terms, with the words that they have then
  term_up : (c : ℕ) (t u : Term) (m : ℕ) (r : ℕ) → (same_term (Holding (Cell a)) t ≡ true → u ≡ t) → (same_term (Holding (Cell a)) t ≡ false → term_value w start u ≡ term_value v start t) →
      (let k : ℕ = if same_term (Holding (Cell a)) t then plus c m else m in plus (c * term_value w start u) (plus r (m * d)) ≡ plus (plus (c * term_value v start t) r) (k * d))
  term_up c t u m r its other =
      cond_both (same_term (Holding (Cell a)) t) (plus c m) m (λ (k : ℕ). plus (c * term_value w start u) (plus r (m * d)) ≡ plus (plus (c * term_value v start t) r) (k * d))
      (λ e. let q : Holding (Cell a) ≡ t = same_is (Holding (Cell a)) t e in
      ap (λ z. plus (c * term_value w start z) (plus r (m * d))) (its e ∙ sym q) ∙
      (ap (λ z. plus (c * z) (plus r (m * d))) up.more ∙ (more c (v (Cell a)) m r ∙ ap (λ z. plus (plus (c * term_value v start z) r) (plus c m * d)) q)))
      (λ e. ap (λ z. plus (c * z) (plus r (m * d))) (other e) ∙ same_more c (term_value v start t) m r)

  counted_yes : (t : Term) → same_term (Holding (Cell a)) t ≡ true → counted_term a d t ≡ t
  counted_yes (Holding n) e = refl
  counted_yes (Behind x k) e = absurd (false≢true e)

  counted_other : (t : Term) → same_term (Holding (Cell a)) t ≡ false → term_value w start (counted_term a d t) ≡ term_value v start t
  counted_other (Holding n) e = other_name n e
  counted_other (Behind x k) e = behind x k

  pub counted_val : (l : Sum) → sum_value w start (counted_sum a d l) ≡ plus (sum_value v start l) (coefficient l * d)
  counted_val [] = none d
    where
      none : (d : ℕ) → 0 ≡ plus 0 (0 * d)
      none d = omega arith
  counted_val (s ∷ ss) =
      ap (λ r. plus (s.coefficient * term_value w start (counted_term a d s.term)) r) (counted_val ss) ∙
      term_up s.coefficient s.term (counted_term a d s.term) (coefficient ss) (sum_value v start ss) (counted_yes s.term) (counted_other s.term)

  plain_other : (t : Term) → is_behind a t ≡ false → same_term (Holding (Cell a)) t ≡ false → term_value w start t ≡ term_value v start t
  plain_other (Holding n) f e = other_name n e
  plain_other (Behind x k) f e = ap (λ u. start (plus u k)) (up.others (Cell x) f)

  pub plain_val : (l : Sum) → has_behind a l ≡ false → sum_value w start l ≡ plus (sum_value v start l) (coefficient l * d)
  plain_val [] f = none d
    where
      none : (d : ℕ) → 0 ≡ plus 0 (0 * d)
      none d = omega arith
  plain_val (s ∷ ss) f =
      let p = or_parts (is_behind a s.term) (has_behind a ss) f in
      ap (λ r. plus (s.coefficient * term_value w start s.term) r) (plain_val ss p.1) ∙
      term_up s.coefficient s.term s.term (coefficient ss) (sum_value v start ss) (λ e. refl) (plain_other s.term p.0)

  -- a set of sums that went up by a word of another set, times a coefficient
  went_up : (set by : Words) (c x : ℕ) → d < 4096 → x < 4096 → set x ≡ true → by d ≡ true → sums set (times c by) (plus x (c * d)) ≡ true
  went_up set by c x small h p q = ap (sums set (times c by)) (sym (add-mod-mod x (c * d) 4096)) ∙ sums_in set (times c by) x (c * d % 4096) h (mod_lt (c * d)) p (times_in c by d small q)
    where
      mod_lt : (x : ℕ) → x % 4096 < 4096
      mod_lt x = omega arith

  pub moved_true : (by : Words) (r : Relation) → d < 4096 → by d ≡ true → IsTrueOf v start r → AllTrue w start (moved_relation a by (only by) r)
  moved_true by r small p h = go (only by) refl
    where
      go : (o : Option ℕ) → only by ≡ o → AllTrue w start (moved_relation a by o r)
      go (Some k) e =
          let is : IsOnly by k = only_word by k e in
          let q : d ≡ k = is.lone d small p in
          subst (λ z. AllTrue w start (moved_relation a by (Some z) r)) q
          (ap (sums r.set (times (coefficient r.sum) by)) (counted_val r.sum) ∙ went_up r.set by (coefficient r.sum) (sum_value v start r.sum) small (val_lt v start r.sum) h p, tt)
      go None e =
          cond_both (has_behind a r.sum) [] (record { sum = r.sum; set = sums r.set (times (coefficient r.sum) by) } ∷ []) (λ (l : List Relation). AllTrue w start l)
          (λ f. tt)
          (λ f. (ap (sums r.set (times (coefficient r.sum) by)) (plain_val r.sum f) ∙ went_up r.set by (coefficient r.sum) (sum_value v start r.sum) small (val_lt v start r.sum) h p, tt))

  pub all_moved : (by : Words) (rs : List Relation) → d < 4096 → by d ≡ true → AllTrue v start rs → AllTrue w start (moved_relations a by rs)
  all_moved by [] small p h = tt
  all_moved by (r ∷ rs) small p h = all_append w start (moved_relation a by (only by) r) (moved_relations a by rs) (moved_true by r small p h.0) (all_moved by rs small p h.1)

  pub chain_counted : (link : ℕ) (cs : List Chain) → AllGiven v link cs → AllGiven w link (map (after_count a d) cs)
  chain_counted link [] h = tt
  chain_counted link (c ∷ cs) h = (one_chain, chain_counted link cs h.1)
    where
      back : (x k : ℕ) → plus (plus x d) (minus k d) ≡ plus x k
      back x k = omega arith

      begins : (let m : ℕ = if c.cell == a then minus c.more d else c.more in plus (w (Cell c.cell)) m ≡ plus (v (Cell c.cell)) c.more)
      begins = cond_both (c.cell == a) (minus c.more d) c.more (λ (m : ℕ). plus (w (Cell c.cell)) m ≡ plus (v (Cell c.cell)) c.more)
          (λ e. let q : c.cell ≡ a = eqb-true c.cell a e in ap (λ b. plus (w (Cell b)) (minus c.more d)) q ∙ (ap (λ u. plus u (minus c.more d)) up.more ∙ (back (v (Cell a)) c.more ∙ ap (λ b. plus (v (Cell b)) c.more) (sym q))))
          (λ e. ap (λ u. plus u c.more) (up.others (Cell c.cell) e))

      one_chain : gives (after_count a d c) (w (Cell c.cell)) (w Ac) link ≡ true
      one_chain =
          ap (λ x. some_below 2 (λ k. c.link k && is_pair_of (after_steps c.steps (x, k)) (w Ac) link)) begins ∙
          (ap (λ u. gives c (v (Cell c.cell)) u link) (up.others Ac refl) ∙ h.0)

pub moved_is_so : MovedIsSo
moved_is_so a d by start v w r up small p h = moved_true a d start v w up by r small p h

pub all_moved_is_so : AllMovedIsSo
all_moved_is_so a d by start v w rs up small p h = all_moved a d start v w up by rs small p h

pub chains_are_counted : ChainsAreCounted
chains_are_counted a d v w link cs up h = chain_counted a d (λ x. 0) v w up link cs h

pub counted_holds : CountedHolds
counted_holds pl a start f v w link begun vw small allowed up h = record {
  sets = λ m. cond_both (same m (Cell a)) (shifted (words_known pl f (Cell a)) 1) (f.set m) (λ (x : Words). x (w m) ≡ true)
      (λ e. subst (λ (z : Location). shifted (words_known pl f (Cell a)) 1 (w z) ≡ true) (sym (same_name m (Cell a) e))
      (ap (shifted (words_known pl f (Cell a)) 1) up.more ∙ shifted_in (words_known pl f (Cell a)) 1 (v (Cell a)) (vw (Cell a)) (known_is_so pl.rules pl.image start f v link (Cell a) begun vw small allowed h)))
      (λ e. ap (f.set m) (up.others m e) ∙ h.sets m);
  relations = all_moved a 1 start v w up (one 1) f.relations (lit< tt) refl h.relations;
  chains = chain_counted a 1 start v w up link f.chains h.chains;
}

-- ---- one of several cells

pub weakly_updated_holds : WeaklyUpdatedHolds
weakly_updated_holds cells new a start f v w link small p keeps q h = record {
  sets = sets;
  relations = free_true (cells_of cells) start v w f.relations others h.relations;
  chains = chains_free_true (cells_of cells) v w link f.chains others h.chains;
}
  where
    here : has_cell cells a ≡ true
    here = and_from _ _ (lt-ltb a 4096 small) p

    -- another cell keeps its word
    apart : (b : ℕ) → (b ≡ a → ⊥) → w (Cell b) ≡ v (Cell b)
    apart b e = keeps (Cell b) (ne_eqb b a e)

    others : KeepsOthers (cells_of cells) v w
    others Ac e = keeps Ac refl
    others (Cell b) e = apart b (λ z. true≢false (sym here ∙ (ap (has_cell cells) (sym z) ∙ e)))

    sets : (n : Location) → weakly_updated_sets cells new f.set n (w n) ≡ true
    sets Ac = ap (f.set Ac) (keeps Ac refl) ∙ h.sets Ac
    sets (Cell b) =
        cond_both (has_cell cells b) (union (f.set (Cell b)) (new b)) (f.set (Cell b)) (λ (x : Words). x (w (Cell b)) ≡ true)
        (λ e. elim (cases_eq b a) [
          | inl z ↦ or_right _ _ (subst (λ y. new y (w (Cell y)) ≡ true) (sym z) q)
          | inr z ↦ or_left _ _ (ap (f.set (Cell b)) (apart b z) ∙ h.sets (Cell b))
        ])
        (λ e. ap (f.set (Cell b)) (apart b (λ z. true≢false (sym here ∙ (ap (has_cell cells) (sym z) ∙ e)))) ∙ h.sets (Cell b))

-- ---- a step of chains

steps_append : (ps : List Step) (p : Step) (s : ℕ × ℕ) → after_steps (ps ++ p ∷ []) s ≡ after_step p (after_steps ps s)
steps_append [] p s = refl
steps_append (q ∷ ps) p s = steps_append ps p (after_step q s)

pair_is : (s : ℕ × ℕ) (w l : ℕ) → is_pair_of s w l ≡ true → s ≡ (w, l)
pair_is s w l e =
    let p = and_parts (s.0 == w) (s.1 == l) e in
    let first : s.0 ≡ w = eqb-true s.0 w p.0 in
    let second : s.1 ≡ l = eqb-true s.1 l p.1 in
    let whole : (s.0, s.1) ≡ (w, l) = ap (λ (x : ℕ). (x, s.1)) first ∙ ap (λ (y : ℕ). (w, y)) second in
    whole

is_pair : (w l : ℕ) → is_pair_of (w, l) w l ≡ true
is_pair w l = and_from _ _ (eq-eqb w w refl) (eq-eqb l l refl)

pub longer_is_so : LongerIsSo
longer_is_so p v w link after [] keeps step h = tt
longer_is_so p v w link after (c ∷ cs) keeps step h = (one_longer, longer_is_so p v w link after cs keeps step h.1)
  where
    x : ℕ
    x = plus (v (Cell c.cell)) c.more

    found : IsSome 2 (λ k. c.link k && is_pair_of (after_steps c.steps (x, k)) (v Ac) link)
    found = some_to 2 (λ k. c.link k && is_pair_of (after_steps c.steps (x, k)) (v Ac) link) h.0

    k : ℕ
    k = found.at

    parts : (c.link k ≡ true) × (is_pair_of (after_steps c.steps (x, k)) (v Ac) link ≡ true)
    parts = and_parts (c.link k) (is_pair_of (after_steps c.steps (x, k)) (v Ac) link) found.holds

    made : after_steps (c.steps ++ p ∷ []) (x, k) ≡ (w Ac, after)
    made = steps_append c.steps p (x, k) ∙ (ap (after_step p) (pair_is (after_steps c.steps (x, k)) (v Ac) link parts.1) ∙ step)

    one_longer : gives (longer p c) (w (Cell c.cell)) (w Ac) after ≡ true
    one_longer =
        ap (λ u. gives (longer p c) u (w Ac) after) (keeps (Cell c.cell) refl) ∙
        some_from 2 (λ k. c.link k && is_pair_of (after_steps (c.steps ++ p ∷ []) (x, k)) (w Ac) after) k found.small
        (and_from _ _ parts.0 (ap (λ (s : ℕ × ℕ). is_pair_of s (w Ac) after) made ∙ is_pair (w Ac) after))

-- ---- after a call

joined_relations_hold : (rules : Rules) (start : Cells) (kept : List Relation) (exit : Fact) (w : Values) (link : ℕ) → AreWords start → AreValues w → AllTrue w start kept → Holds exit w start link → Holds (joined_relations rules kept exit) w start link
joined_relations_hold OfSums start kept exit w link sw ww k h = all_added w start sw ww OfSums exit link kept h k
joined_relations_hold OfEquations start kept exit w link sw ww k h = record { sets = h.sets; relations = all_append w start kept exit.relations k h.relations; chains = h.chains }

joined_relations_keep : (rules : Rules) (kept : List Relation) (exit : Fact) → SameButSets exit (joined_relations rules kept exit)
joined_relations_keep OfSums kept exit = adding_keeps OfSums kept exit
joined_relations_keep OfEquations kept exit = record { chains = refl; mq = refl; link = refl; sites = refl; offsets = refl }

outside_words : (rules : Rules) (a b : Words) (x : ℕ) → a x ≡ true → b x ≡ true → words_outside rules a b x ≡ true
outside_words OfSums a b x p q = and_from _ _ p q
outside_words OfEquations a b x p q = p

pub joined_fact_holds : JoinedFactHolds
unfolding joined
joined_fact_holds rules start call exit written v w before after sw ww keeps c e =
    let names : Location → Bool = λ n. not (is_outside written n) in
    let others : KeepsOthers names v w = λ n q. keeps n (not-false (is_outside written n) q) in
    let all : Holds (joined_relations rules (outside written call.relations) exit) w start after =
    joined_relations_hold rules start (outside written call.relations) exit w after sw ww (free_true names start v w call.relations others c.relations) e in
    record {
      sets = λ n. cond_both (is_outside written n) (words_outside rules (call.set n) (exit.set n)) (exit.set n) (λ (x : Words). x (w n) ≡ true)
          (λ q. outside_words rules (call.set n) (exit.set n) (w n) (ap (call.set n) (keeps n q) ∙ c.sets n) (e.sets n))
          (λ q. e.sets n);
      relations = all.relations;
      chains = all.chains;
    }

pub joined_keeps : JoinedKeeps
unfolding joined
joined_keeps rules call exit written =
    let same : SameButSets exit (joined_relations rules (outside written call.relations) exit) = joined_relations_keep rules (outside written call.relations) exit in
    record { sites = refl; offsets = refl; mq = same.mq; link = same.link; chains = same.chains }

-- ---- a return word

pub counted_up_is_so : CountedUpIsSo
counted_up_is_so f before after [] full more h = tt
counted_up_is_so f before after (k ∷ ks) full more h =
    let o : ℕ = h.0 in
    let small : h.0 < 64 = h.1 in
    let not_last : h.0 ≡ 63 → ⊥ = λ e. true≢false (sym h.2 ∙ (ap f.offsets e ∙ full)) in
    let less : h.0 + 1 < 64 = omega arith in
    let back : h.0 + 1 - 1 ≡ h.0 = omega arith in
    let word : before k.entry ≡ k.after + h.0 = h.3 in
    let new : after k.entry ≡ before k.entry + 1 = more in
    let some : h.0 + 1 ≡ 0 → ⊥ = omega arith in (
      h.0 + 1,
      less,
      and_from _ _ (lt-ltb (h.0 + 1) 64 less)
          (cond_both (h.0 + 1 == 0) false (f.offsets (h.0 + 1 - 1)) (λ b. b ≡ true) (λ e. absurd (some (eqb-true (h.0 + 1) 0 e))) (λ e. ap f.offsets back ∙ h.2)),
      omega arith,
    )
