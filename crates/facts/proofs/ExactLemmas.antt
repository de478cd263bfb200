-- By the rules of equations, the fact of all starts entails whatever fact of equations holds of every start.
use Rattle.std.proofs.Common.{◌≡◌, ℕ, ◌<◌, ◌==◌, Bool, true, false, Option, Some, None, List, [], ◌∷◌, refl, sym, ap, ◌∙◌, subst, inr, arith, lit<}
use Rattle.std.specs.Prelude.{if◌then◌else◌}
use Rattle.std.specs.List.{AllByRecursion}
use Rattle.std.proofs.lemmas.Bool.{eq-eqb, eqb-true, ne_eqb, cond_both, true≢false, false≢true}
use Rattle.wordset.specs.Words.{minus, Words, one, only, IsWithin}
use Rattle.processor.specs.Cells.{Cells}
use Rattle.processor.specs.Machine.{State}
use Rattle.processor.specs.Runs.{Image, IsStart}
use Rattle.domain.specs.Locations.{Location, Ac, Cell, same, Values, values, tape_word}
use Rattle.domain.specs.Terms.{sum_value, difference_of}
use Rattle.domain.specs.Facts.{Relation, Fact, Place, Rules, OfEquations, AllTrue, IsTrueOf, Means}
use Rattle.domain.specs.Narrowing.{words_by, words_known}
use Rattle.facts.specs.TapeWords.{AreTapeWords}
use Rattle.facts.specs.Entailment.{Entails, KnowsAll, KnowsBy, ShowsChains, ShowsDifference}
use Rattle.facts.specs.Starts.{words_at_start, start_fact, HoldsOfStarts, IsEquation, StartsAreExact}
use Rattle.transfer.proofs.OneTarget.{direct_only}
use Rattle.facts.proofs.BeginningLemmas.{narrowed_plain}
use Rattle.facts.proofs.EntailedLemmas.{difference_value, entailed_facts_hold}
use Rattle.facts.proofs.StartedLemmas.{start_is_begun, start_fact_holds}
use Rattle.wordset.specs.Words.{all_words, all_links, nothing}

-- a cell of a memory with the tape's words laid over others
abbrev pub laid_cell : Option ℕ → ℕ → ℕ
laid_cell None v = v
laid_cell (Some w) v = w

abbrev pub laid : Image → Cells → Cells
laid image fill a = laid_cell (image a) (fill a)

if_below : (b : Bool) (x y n : ℕ) → x < n → y < n → (if b then x else y) < n
if_below true x y n h g = h
if_below false x y n h g = g

no_number : (z k : ℕ) → minus 0 z ≡ k → minus 1 z ≡ k → ⊥
no_number z k e f = omega arith

no_shift : (z k : ℕ) → z < 4096 → minus z 0 ≡ k → minus z 1 ≡ k → ⊥
no_shift z k lt e f = omega arith

module _ (pl : Place) (tape : AreTapeWords pl.image) (begin : pl.declaration.start < 4096) where
  abbrev pub state_with : ℕ → ℕ → ℕ → Cells → State
  state_with ac link mq fill = record { ac = ac; link = link; mq = mq; pc = pl.declaration.start; memory = laid pl.image fill }

  is_start : (ac link mq : ℕ) (fill : Cells) → ac < 4096 → link < 2 → mq < 4096 → ((a : ℕ) → fill a < 4096) → IsStart pl.image pl.declaration.start (state_with ac link mq fill)
  is_start ac link mq fill la ll lm lf = record {
    pc = refl;
    ac = la;
    link = ll;
    mq = lm;
    words = λ a. word (pl.image a) (fill a) (λ w e. tape a w e) (lf a);
    loaded = λ a w e. rw e;
  }
    where
      word : (o : Option ℕ) (v : ℕ) → ((w : ℕ) → o ≡ Some w → w < 4096) → v < 4096 → laid_cell o v < 4096
      word None v h l = l
      word (Some w) v h l = h w refl

  -- what the names stand for at a start
  abbrev pub begun : State → Values
  begun s = values pl.declaration s.memory s.ac s.memory

  begun_cell : (s : State) (a : ℕ) → begun s (Cell a) ≡ s.memory a
  begun_cell s a = cond_both (pl.declaration.variable a) (s.memory a) (s.memory a) (λ x. x ≡ s.memory a) (λ q. refl) (λ q. refl)

  begun_word : (s : State) → IsStart pl.image pl.declaration.start s → (n : Location) → begun s n < 4096
  begun_word s st Ac = st.ac
  begun_word s st (Cell a) = rw (begun_cell s a) (st.words a)

  start_of : (ac : ℕ) → ac < 4096 → (fill : Cells) → ((a : ℕ) → fill a < 4096) → IsStart pl.image pl.declaration.start (state_with ac 0 0 fill)
  start_of ac la fill lf = is_start ac 0 0 fill la (omega arith) (omega arith) lf

  -- a memory whose free cells are 0, but for one
  abbrev pub but : ℕ → ℕ → Cells
  but a v b = if b == a then v else 0

  but_words : (a v : ℕ) → v < 4096 → (b : ℕ) → but a v b < 4096
  but_words a v lt b = if_below (b == a) v 0 4096 lt (lit< tt)

  -- the word of a cell in such a memory
  free_cell : (a v ac : ℕ) → pl.image a ≡ None → begun (state_with ac 0 0 (but a v)) (Cell a) ≡ v
  free_cell a v ac e = begun_cell (state_with ac 0 0 (but a v)) a ∙ rw (e, eq-eqb a a refl)

  other_cell : (a b v ac : ℕ) → (b ≡ a → ⊥) → begun (state_with ac 0 0 (but a v)) (Cell b) ≡ laid_cell (pl.image b) 0
  other_cell a b v ac n = begun_cell (state_with ac 0 0 (but a v)) b ∙ (let q : (b == a) ≡ false = ne_eqb b a n in rw q)

  tape_cell : (a w ac : ℕ) (fill : Cells) → pl.image a ≡ Some w → begun (state_with ac 0 0 fill) (Cell a) ≡ w
  tape_cell a w ac fill e = begun_cell (state_with ac 0 0 fill) a ∙ rw e

  ac_start : (ac : ℕ) → ac < 4096 → IsStart pl.image pl.declaration.start (state_with ac 0 0 (λ a. 0))
  ac_start ac lt = start_of ac lt (λ a. 0) (λ a. lit< tt)

  -- the difference of two names is this word at every start
  abbrev pub Differ : Location → Location → ℕ → Type 0
  Differ m n k = (s : State) → IsStart pl.image pl.declaration.start s → minus (begun s m) (begun s n) ≡ k

  -- one word is left to each of two names at a start, and their difference is this one
  pub record Shown (m n : Location) (k : ℕ) : Type 0 where
    pub first : ℕ
    pub second : ℕ
    pub one_left : only (words_at_start pl.image m) ≡ Some first
    pub one_right : only (words_at_start pl.image n) ≡ Some second
    pub difference : minus first second ≡ k

  only_tape : (a w : ℕ) → pl.image a ≡ Some w → only (words_at_start pl.image (Cell a)) ≡ Some w
  only_tape a w e = ap (λ (o : Option ℕ). only (tape_word o)) e ∙ sym (direct_only w (tape a w e))

  cells_shown : (a b k : ℕ) → (a ≡ b → ⊥) → Differ (Cell a) (Cell b) k → Shown (Cell a) (Cell b) k
  cells_shown a b k n h = go (pl.image a) (pl.image b) refl refl
    where
      at : (c v : ℕ) → v < 4096 → minus (begun (state_with 0 0 0 (but c v)) (Cell a)) (begun (state_with 0 0 0 (but c v)) (Cell b)) ≡ k
      at c v lt = h (state_with 0 0 0 (but c v)) (start_of 0 (lit< tt) (but c v) (but_words c v lt))

      go : (o p : Option ℕ) → pl.image a ≡ o → pl.image b ≡ p → Shown (Cell a) (Cell b) k
      go (Some x) (Some y) e f = record {
        first = x;
        second = y;
        one_left = only_tape a x e;
        one_right = only_tape b y f;
        difference = sym (ap (λ z. minus z y) (tape_cell a x 0 (but a 0) e)) ∙ (sym (ap (λ z. minus (begun (state_with 0 0 0 (but a 0)) (Cell a)) z) (tape_cell b y 0 (but a 0) f)) ∙ at a 0 (lit< tt));
      }
      go (Some x) None e f = absurd (no_shift x k (tape a x e)
          (sym (ap (λ z. minus z 0) (tape_cell a x 0 (but b 0) e)) ∙ (sym (ap (λ z. minus (begun (state_with 0 0 0 (but b 0)) (Cell a)) z) (free_cell b 0 0 f)) ∙ at b 0 (lit< tt)))
          (sym (ap (λ z. minus z 1) (tape_cell a x 0 (but b 1) e)) ∙ (sym (ap (λ z. minus (begun (state_with 0 0 0 (but b 1)) (Cell a)) z) (free_cell b 1 0 f)) ∙ at b 1 (lit< tt))))
      go None p e f = absurd (no_number (laid_cell (pl.image b) 0) k
          (sym (ap (λ z. minus z (laid_cell (pl.image b) 0)) (free_cell a 0 0 e)) ∙ (sym (ap (λ z. minus (begun (state_with 0 0 0 (but a 0)) (Cell a)) z) (other_cell a b 0 0 (λ q. n (sym q)))) ∙ at a 0 (lit< tt)))
          (sym (ap (λ z. minus z (laid_cell (pl.image b) 0)) (free_cell a 1 0 e)) ∙ (sym (ap (λ z. minus (begun (state_with 0 0 0 (but a 1)) (Cell a)) z) (other_cell a b 1 0 (λ q. n (sym q)))) ∙ at a 1 (lit< tt))))

  names_shown : (m n : Location) (k : ℕ) → same m n ≡ false → Differ m n k → Shown m n k
  names_shown (Cell a) (Cell b) k d h = cells_shown a b k (λ e. true≢false (sym (eq-eqb a b e) ∙ d)) h
  names_shown Ac Ac k d h = absurd (true≢false d)
  names_shown Ac (Cell b) k d h = absurd (no_number (begun (state_with 0 0 0 (λ a. 0)) (Cell b)) k
      (h (state_with 0 0 0 (λ a. 0)) (ac_start 0 (lit< tt))) (h (state_with 1 0 0 (λ a. 0)) (ac_start 1 (lit< tt))))
  names_shown (Cell a) Ac k d h = absurd (no_shift (begun (state_with 0 0 0 (λ b. 0)) (Cell a)) k (begun_word (state_with 0 0 0 (λ b. 0)) (ac_start 0 (lit< tt)) (Cell a))
      (h (state_with 0 0 0 (λ b. 0)) (ac_start 0 (lit< tt))) (h (state_with 1 0 0 (λ b. 0)) (ac_start 1 (lit< tt))))

  -- the words of a name that are known at a start
  known_there : pl.rules ≡ OfEquations → (n : Location) → words_known pl (start_fact pl.image) n ≡ words_at_start pl.image n
  known_there e n = ap (λ (r : Rules). words_by r pl.image (start_fact pl.image) n) e
      ∙ ap (λ (g : Fact). g.set n) (narrowed_plain pl.image (words_at_start pl.image) all_words all_links nothing nothing)

  -- a relation that is true of every start is known
  equation_known : pl.rules ≡ OfEquations → (r : Relation) → IsEquation r → ((s : State) → IsStart pl.image pl.declaration.start s → IsTrueOf (begun s) s.memory r) →
      KnowsBy pl.rules pl (start_fact pl.image) r
  equation_known e r q h =
      let differ : Differ q.left q.right q.more = λ s st.
      sym (difference_value (begun s) s.memory q.left q.right (begun_word s st))
      ∙ (sym (ap (sum_value (begun s) s.memory) q.sum) ∙ eqb-true (sum_value (begun s) s.memory r.sum) q.more (sym (ap (λ (w : Words). w (sum_value (begun s) s.memory r.sum)) q.set) ∙ h s st)) in
      let shown : Shown q.left q.right q.more = names_shown q.left q.right q.more q.different differ in
      let shows : ShowsDifference pl (start_fact pl.image) r = (
        q.left,
        q.right,
        shown.first,
        shown.second,
        q.sum,
        ap only (known_there e q.left) ∙ shown.one_left,
        ap only (known_there e q.right) ∙ shown.one_right,
        ap (λ (w : Words). w (minus shown.first shown.second)) q.set ∙ eq-eqb (minus shown.first shown.second) q.more shown.difference,
      ) in
      subst (λ (x : Rules). KnowsBy x pl (start_fact pl.image) r) (sym e) (inr shows)

  all_known : pl.rules ≡ OfEquations → (rs : List Relation) → AllByRecursion IsEquation rs → ((s : State) → IsStart pl.image pl.declaration.start s → AllTrue (begun s) s.memory rs) →
      KnowsAll pl (start_fact pl.image) rs
  all_known e [] q h = tt
  all_known e (r ∷ rs) q h = (equation_known e r q.0 (λ s st. (h s st).0), all_known e rs q.1 (λ s st. (h s st).1))

  -- a name's set has each word that the name may hold at a start
  set_within : (f : Fact) → HoldsOfStarts pl f → (n : Location) → IsWithin (words_at_start pl.image n) (f.set n)
  set_within f h Ac v lt k = (h (state_with v 0 0 (λ a. 0)) (ac_start v lt)).holds.sets Ac
  set_within f h (Cell a) v lt k = go (pl.image a) refl k
    where
      at : (u : ℕ) → u < 4096 → f.set (Cell a) (begun (state_with 0 0 0 (but a u)) (Cell a)) ≡ true
      at u small = (h (state_with 0 0 0 (but a u)) (start_of 0 (lit< tt) (but a u) (but_words a u small))).holds.sets (Cell a)

      go : (o : Option ℕ) → pl.image a ≡ o → tape_word o v ≡ true → f.set (Cell a) v ≡ true
      go None e w = subst (λ x. f.set (Cell a) x ≡ true) (free_cell a v 0 e) (at v lt)
      go (Some x) e w = subst (λ y. f.set (Cell a) y ≡ true) (tape_cell a x 0 (but a 0) e ∙ sym (eqb-true v x w)) (at 0 (lit< tt))

  entailed_at_starts : (f : Fact) → pl.rules ≡ OfEquations → AllByRecursion IsEquation f.relations → f.chains ≡ [] → HoldsOfStarts pl f → Entails pl (start_fact pl.image) f
  entailed_at_starts f e q none h = record {
    sets = λ n. subst (λ (w : Words). IsWithin w (f.set n)) (sym (known_there e n)) (set_within f h n);
    mq = λ v lt k. (h (state_with 0 0 v (λ a. 0)) (is_start 0 0 v (λ a. 0) (lit< tt) (omega arith) lt (λ a. lit< tt))).mq;
    link = λ l lt k. (h (state_with 0 l 0 (λ a. 0)) (is_start 0 l 0 (λ a. 0) (lit< tt) lt (lit< tt) (λ a. lit< tt))).link;
    relations = all_known e f.relations q (λ s st. (h s st).holds.relations);
    chains = subst (ShowsChains pl (start_fact pl.image)) (sym none) tt;
    sites = λ v lt k. absurd (false≢true k);
    offsets = λ o lt k. absurd (false≢true k);
  }

pub starts_are_exact : StartsAreExact
starts_are_exact pl f e tape main begin q none = (
  λ entails s st. entailed_facts_hold pl s.memory (start_fact pl.image) f s [] (start_is_begun pl pl.declaration.start s st)
      (record { ac = st.ac; link = st.link; mq = st.mq; pc = subst (λ x. x < 4096) (sym st.pc) begin; words = st.words })
      entails (start_fact_holds pl s main st),
  λ h. entailed_at_starts pl tape begin f e q none h,
)
