-- The states of a fact: what names hold, what a cell may hold, where a pointer points to, and which outcomes are given.
use Rattle.std.proofs.Common.{◌≡◌, ℕ, ◌+◌, ◌-◌, ◌<◌, Bool, true, false, ◌&&◌, ◌⊎◌, Option, Some, None, List, [], ◌∷◌, ◌++◌, refl, sym, ap, ◌∙◌, subst, inl, inr, arith}
use Rattle.std.specs.Prelude.{if◌then◌else◌}
use Rattle.std.proofs.lemmas.Bool.{and_from, cond_both, eqb-true, eqb-false, eq-eqb, true≢false, false≢true, cases_eq, lt-ltb}
use Rattle.wordset.specs.Words.{plus, minus, Words, all_words, has_some, shifted}
use Rattle.processor.specs.Cells.{Cells, updated, AreWords}
use Rattle.processor.specs.Machine.{State, seen, place, steps_pointer}
pub use Rattle.processor.proofs.CellLemmas.{updated_same, updated_other}
use Rattle.declaration.specs.Declaration.{Declaration, IsDeclared}
use Rattle.policy.specs.Calls.{Call, Calls}
use Rattle.domain.specs.Locations.{Location, Ac, Cell, same, Values, values, KeepsRest, is_routine, tape_word}
use Rattle.domain.specs.Facts.{Fact, Place, Rules, OfEquations, OfSums, Holds, OwnWord, StandsIn, Means}
use Rattle.domain.specs.Adding.{with_set}
use Rattle.domain.specs.Narrowing.{words_known}
use Rattle.domain.specs.Moves.{counted}
use Rattle.domain.specs.Laws.{IsBegun, AreValues, KeepsOthers, GoesUp}
use Rattle.domain.proofs.Numbers.{plus_lt}
use Rattle.domain.proofs.SumLemmas.{same_name}
use Rattle.domain.proofs.NarrowingLemmas.{known_is_so}
use Rattle.domain.proofs.MoveLemmas.{counted_holds}
use Rattle.facts.specs.States.{IsState, TopIsEntry}
use Rattle.transfer.specs.References.{own_words, words_in, possible, stepped, targets, words_at}
use Rattle.transfer.specs.Outcomes.{Successor, given, ac_of, is_alive, alive, goes}
use Rattle.facts.specs.Laws.{LandsIn, SomeOutcome}
use Rattle.facts.proofs.WordLemmas.{if_below, some_from, shift_true}

-- ---- memory and names

pub words_updated : (m : Cells) (a v : ℕ) → v < 4096 → AreWords m → AreWords (updated m a v)
words_updated m a v h ws b = elim (cases_eq b a) [
  | inl e ↦ (rw (e, updated_same m a v) h)
  | inr n ↦ rw (updated_other m a v b n) (ws b)
]

-- memory after a pointer was stepped, and the place that a reference refers to
pub seen_words : (i : Bool) (c : ℕ) (m : Cells) → AreWords m → AreWords (seen i c m)
seen_words i c m ws a = cond_both (steps_pointer i c) (updated m c (plus (m c) 1)) m (λ (chosen : Cells). chosen a < 4096) (λ q. words_updated m c (plus (m c) 1) (plus_lt (m c) 1) ws a) (λ q. ws a)

pub seen_place : (i : Bool) (c : ℕ) (m : Cells) → AreWords m → c < 4096 → place i c m < 4096
seen_place false c m ws h = h
seen_place true c m ws h = seen_words true c m ws c

pub values_words : (d : Declaration) (start : Cells) (ac : ℕ) (m : Cells) → ac < 4096 → AreWords start → AreWords m → AreValues (values d start ac m)
values_words d start ac m h sw ws Ac = h
values_words d start ac m h sw ws (Cell a) = if_below (d.variable a) _ _ _ (ws a) (sw a)

-- a variable stands for its word
pub value_of : (d : Declaration) (start : Cells) (ac : ℕ) (m : Cells) (a : ℕ) → d.variable a ≡ true → values d start ac m (Cell a) ≡ m a
value_of d start ac m a e = rw e

pub updated_values : (d : Declaration) (start : Cells) (ac : ℕ) (m : Cells) (y v : ℕ) → KeepsOthers (λ n. same n (Cell y)) (values d start ac m) (values d start ac (updated m y v))
updated_values d start ac m y v Ac q = refl
updated_values d start ac m y v (Cell a) q = let e : updated m y v a ≡ m a = updated_other m y v a (eqb-false a y q) in rw e

pub ac_values : (d : Declaration) (start : Cells) (ac ac' : ℕ) (m : Cells) → KeepsOthers (λ n. same n Ac) (values d start ac m) (values d start ac' m)
ac_values d start ac ac' m Ac q = absurd (true≢false q)
ac_values d start ac ac' m (Cell a) q = refl

-- what is not a variable may be written unseen
pub hidden_values : (d : Declaration) (start : Cells) (ac : ℕ) (m : Cells) (y v : ℕ) → d.variable y ≡ false → KeepsOthers (λ n. false) (values d start ac m) (values d start ac (updated m y v))
hidden_values d start ac m y v e Ac q = refl
hidden_values d start ac m y v e (Cell a) q = elim (cases_eq a y) [
  | inl s ↦ (let f : d.variable a ≡ false = rw s e in rw f)
  | inr n ↦ (let p : updated m y v a ≡ m a = updated_other m y v a n in rw p)
]

pub rest_updated : (d : Declaration) (start m : Cells) (y v : ℕ) → (d.variable y ≡ true) ⊎ (d.entry y ≡ true) → KeepsRest d start m → KeepsRest d start (updated m y v)
rest_updated d start m y v w k a p q = elim (cases_eq a y) [
  | inl e ↦ absurd (elim w [ inl t ↦ true≢false (sym (rw e t) ∙ p) | inr t ↦ true≢false (sym (rw e t) ∙ q) ])
  | inr n ↦ updated_other m y v a n ∙ k a p q
]

-- ---- calls

pub own_updated : (f : Fact) (m : Cells) (y v : ℕ) (ks : Calls) → ((k : Call) (rest : Calls) → ks ≡ k ∷ rest → k.entry ≡ y → ⊥) → OwnWord f m ks → OwnWord f (updated m y v) ks
own_updated f m y v [] h o = tt
own_updated f m y v (k ∷ ks) h o = (o.0, o.1, o.2, updated_other m y v k.entry (h k ks refl) ∙ o.3)

pub own_like : (f g : Fact) (m : Cells) (ks : Calls) → g.offsets ≡ f.offsets → OwnWord f m ks → OwnWord g m ks
own_like f g m [] e o = tt
own_like f g m (k ∷ ks) e o = (o.0, o.1, ap (λ (x : Words). x o.0) e ∙ o.2, o.3)

pub stands_like : (pl : Place) (f g : Fact) (ks : Calls) → g.sites ≡ f.sites → StandsIn pl f ks → StandsIn pl g ks
stands_like pl f g [] e s = s
stands_like pl f g (k ∷ ks) e s = (s.0, s.1, s.2, ap (λ (x : Words). x (k.after - 1)) e ∙ s.3)

pub top_not : (d : Declaration) (y : ℕ) → IsDeclared d → d.variable y ≡ true → (ks : Calls) → TopIsEntry d ks → (k : Call) (rest : Calls) → ks ≡ k ∷ rest → k.entry ≡ y → ⊥
top_not d y dd var [] t k rest e q = cc
top_not d y dd var (l ∷ ks) t k rest e q =
    let le : l ≡ k = cc in
    let en : d.entry y ≡ true = rw (← q, ← le) t in
    true≢false (sym var ∙ dd.entry_not_variable y en)

-- ---- outcomes

pub some_given : (p : Successor → Type 0) (b : Bool) (o : Successor) → b ≡ true → p o → SomeOutcome p (given b o)
some_given p true o e h = inl h
some_given p false o e h = absurd (false≢true e)

pub some_left : (p : Successor → Type 0) (os qs : List Successor) → SomeOutcome p os → SomeOutcome p (os ++ qs)
some_left p [] qs h = absurd h
some_left p (o ∷ os) qs h = elim h [ inl x ↦ inl x | inr x ↦ inr (some_left p os qs x) ]

pub some_right : (p : Successor → Type 0) (os qs : List Successor) → SomeOutcome p qs → SomeOutcome p (os ++ qs)
some_right p [] qs h = h
some_right p (o ∷ os) qs h = inr (some_right p os qs h)

-- the state that the access sees
abbrev pub after_pointer : Bool → ℕ → State → State
after_pointer i c s = record s { memory = seen i c s.memory }

-- a set for a name beside the sets of the others
pub set_at : (n : Location) (set : Words) (sets : Location → Words) (w : Values) → set (w n) ≡ true →
    ((m : Location) → same m n ≡ false → sets m (w m) ≡ true) → (m : Location) → with_set n set sets m (w m) ≡ true
set_at n set sets w here there m = cond_both (same m n) set (sets m) (λ (chosen : Words). chosen (w m) ≡ true) (λ q. let l : m ≡ n = same_name m n q in rw l here) (λ q. there m q)

module _ (pl : Place) (dd : IsDeclared pl.declaration) (start : Cells) (begun : IsBegun pl.image start) where
  -- what the names stand for
  abbrev pub vals : ℕ → Cells → Values
  vals ac m = values pl.declaration start ac m

  pub names_words : (s : State) → IsState s → AreValues (vals s.ac s.memory)
  names_words s ss = values_words pl.declaration start s.ac s.memory ss.ac begun.words ss.words

  -- what holds of a fact that says no more of the same memory
  pub means_like : (f g : Fact) (s : State) (ks : Calls) (ac link mq pc : ℕ) → Means pl start f s ks → Holds g (vals ac s.memory) start link →
      g.mq mq ≡ true → g.link link ≡ true → g.sites ≡ f.sites → g.offsets ≡ f.offsets →
      Means pl start g (record s { ac = ac; link = link; mq = mq; pc = pc }) ks
  means_like f g s ks ac link mq pc h hg em el es eo =
      record { holds = hg; mq = em; link = el; rest = h.rest; stands = stands_like pl f g ks es h.stands; own = own_like f g s.memory ks eo h.own }

  -- and of the memory in which a variable took another word
  pub means_updated : (f g : Fact) (s : State) (ks : Calls) (y v ac pc : ℕ) → TopIsEntry pl.declaration ks → pl.declaration.variable y ≡ true → Means pl start f s ks →
      Holds g (vals ac (updated s.memory y v)) start s.link → g.mq ≡ f.mq → g.link ≡ f.link → g.sites ≡ f.sites → g.offsets ≡ f.offsets →
      Means pl start g (record s { ac = ac; pc = pc; memory = updated s.memory y v }) ks
  means_updated f g s ks y v ac pc top var h hg em el es eo = record {
    holds = hg;
    mq = ap (λ (x : Words). x s.mq) em ∙ h.mq;
    link = ap (λ (x : Words). x s.link) el ∙ h.link;
    rest = rest_updated pl.declaration start s.memory y v (inl var) h.rest;
    stands = stands_like pl f g ks es h.stands;
    own = own_like f g (updated s.memory y v) ks eo (own_updated f s.memory y v ks (top_not pl.declaration y dd var ks top) h.own);
  }

  pub same_step : (f : Fact) (s : State) (ks : Calls) (pc : ℕ) → Means pl start f s ks → Means pl start f (record s { pc = pc }) ks
  same_step f s ks pc h = record { holds = h.holds; mq = h.mq; link = h.link; rest = h.rest; stands = h.stands; own = h.own }

  -- ---- what is known

  pub known_true : (f : Fact) (s : State) (ks : Calls) (n : Location) → IsState s → Means pl start f s ks → words_known pl f n (vals s.ac s.memory n) ≡ true
  known_true f s ks n ss h = known_is_so pl.rules pl.image start f (vals s.ac s.memory) s.link n begun (names_words s ss) ss.link h.link h.holds

  pub ac_true : (f : Fact) (s : State) (ks : Calls) → IsState s → Means pl start f s ks → ac_of pl f s.ac ≡ true
  ac_true f s ks ss h = known_true f s ks Ac ss h

  -- a variable's word is in its narrowed set
  pub variable_true : (f : Fact) (s : State) (ks : Calls) (a : ℕ) → IsState s → Means pl start f s ks → pl.declaration.variable a ≡ true → words_known pl f (Cell a) (s.memory a) ≡ true
  variable_true f s ks a ss h p =
      let v : vals s.ac s.memory (Cell a) ≡ s.memory a = value_of pl.declaration start s.ac s.memory a p in
      subst (λ x. words_known pl f (Cell a) x ≡ true) v (known_true f s ks (Cell a) ss h)

  tape_true : (o : Option ℕ) (x : ℕ) → x < 4096 → ((w : ℕ) → o ≡ Some w → x ≡ w) → tape_word o x ≡ true
  tape_true None x lt h = lt-ltb x 4096 lt
  tape_true (Some w) x lt h = eq-eqb x w (h w refl)

  pub own_true : (f : Fact) (m : Cells) (ks : Calls) (a : ℕ) → AreWords m → StandsIn pl f ks → OwnWord f m ks → is_routine pl.routine a ≡ true → own_words f (m a) ≡ true
  own_true f m [] a ws st o e = absurd (false≢true (rw st at e))
  own_true f m (k ∷ ks) a ws st o e =
      let isk : a ≡ k.entry = eqb-true a k.entry (rw st.0 at e) in
      let v : m a ≡ k.after + o.0 = rw isk o.3 in
      let small : m a < 4096 = ws a in
      let lt : o.0 < 64 = o.1 in
      let pos : 0 < k.after = st.1 in
      let back : minus (m a) (o.0 + 1) ≡ k.after - 1 = omega arith in
      some_from 64 (λ n. f.offsets n && shifted f.sites (n + 1) (m a)) o.0 o.1 (and_from _ _ o.2 (shift_true f.sites (o.0 + 1) (m a) small (rw back st.3)))

  pub word_true : (f : Fact) (s : State) (ks : Calls) (a : ℕ) → IsState s → Means pl start f s ks → words_in pl f a (s.memory a) ≡ true
  unfolding words_in
  word_true f s ks a ss h = cond_both (pl.declaration.variable a) (words_known pl f (Cell a)) _ has (λ p. variable_true f s ks a ss h p)
      (λ p. cond_both (is_routine pl.routine a) (own_words f) _ has (λ q. own_true f s.memory ks a ss.words h.stands h.own q)
      (λ q. cond_both (pl.declaration.entry a) all_words (tape_word (pl.image a)) has (λ r. lt-ltb (s.memory a) 4096 (ss.words a)) (λ r. tape_true (pl.image a) (s.memory a) (ss.words a) (λ w t. h.rest a p r ∙ begun.loaded a w t))))
    where
      has : Words → Type 0
      has chosen = chosen (s.memory a) ≡ true

  pub possible_true : (f : Fact) (s : State) (ks : Calls) (a : ℕ) → IsState s → Means pl start f s ks → pl.declaration.entry a ≡ false → possible pl f a (s.memory a) ≡ true
  unfolding possible
  possible_true f s ks a ss h r = cond_both (pl.declaration.variable a) (words_known pl f (Cell a)) (tape_word (pl.image a)) (λ (chosen : Words). chosen (s.memory a) ≡ true)
      (λ p. variable_true f s ks a ss h p) (λ p. tape_true (pl.image a) (s.memory a) (ss.words a) (λ w t. h.rest a p r ∙ begun.loaded a w t))

  pub words_at_true : (f : Fact) (s : State) (ks : Calls) (p : Words) (y : ℕ) → IsState s → Means pl start f s ks → y < 4096 → p y ≡ true → words_at pl f p (s.memory y) ≡ true
  words_at_true f s ks p y ss h lt e = some_from 4096 (λ a. p a && words_in pl f a (s.memory y)) y lt (and_from _ _ e (word_true f s ks y ss h))

  -- ---- pointers

  pub pointer_state : (i : Bool) (c : ℕ) (s : State) → IsState s → IsState (after_pointer i c s)
  pointer_state i c s ss = record { ac = ss.ac; link = ss.link; mq = ss.mq; pc = ss.pc; words = seen_words i c s.memory ss.words }

  -- a variable was counted up
  pub goes_up : (s : State) (ac y : ℕ) → pl.declaration.variable y ≡ true → GoesUp y 1 (vals ac s.memory) (vals ac (updated s.memory y (plus (s.memory y) 1)))
  goes_up s ac y e = record {
    more = value_of pl.declaration start ac (updated s.memory y (plus (s.memory y) 1)) y e
        ∙ (updated_same s.memory y (plus (s.memory y) 1) ∙ ap (λ x. plus x 1) (sym (value_of pl.declaration start ac s.memory y e)));
    others = updated_values pl.declaration start ac s.memory y (plus (s.memory y) 1);
  }

  pub counted_cell_holds : (f : Fact) (s : State) (ks : Calls) (y : ℕ) → IsState s → Means pl start f s ks → pl.declaration.variable y ≡ true →
      Holds (counted pl y f) (vals s.ac (updated s.memory y (plus (s.memory y) 1))) start s.link
  counted_cell_holds f s ks y ss h var =
      counted_holds pl y start f (vals s.ac s.memory) (vals s.ac (updated s.memory y (plus (s.memory y) 1))) s.link begun (names_words s ss) ss.link h.link (goes_up s s.ac y var) h.holds

  pub pointer_means : (i : Bool) (c : ℕ) (f : Fact) (s : State) (ks : Calls) → IsState s → TopIsEntry pl.declaration ks →
      (steps_pointer i c ≡ true → pl.declaration.variable c ≡ true) → Means pl start f s ks → Means pl start (stepped pl i c f) (after_pointer i c s) ks
  pointer_means i c f s ks ss top var h = go (steps_pointer i c) refl
    where
      go : (b : Bool) → steps_pointer i c ≡ b →
          Means pl start (if b then counted pl c f else f)
          (record s { memory = if b then updated s.memory c (plus (s.memory c) 1) else s.memory }) ks
      go false e = record { holds = h.holds; mq = h.mq; link = h.link; rest = h.rest; stands = h.stands; own = h.own }
      go true e = means_updated f (counted pl c f) s ks c (plus (s.memory c) 1) s.ac s.pc top (var e) h (counted_cell_holds f s ks c ss h (var e)) refl refl refl refl

  pub target_true : (i : Bool) (c : ℕ) (f : Fact) (s : State) (ks : Calls) → IsState s → TopIsEntry pl.declaration ks →
      (steps_pointer i c ≡ true → pl.declaration.variable c ≡ true) → Means pl start f s ks → targets pl i c f (place i c s.memory) ≡ true
  target_true false c f s ks ss top var h = eq-eqb c c refl
  target_true true c f s ks ss top var h =
      cond_both (steps_pointer true c) ((stepped pl true c f).set (Cell c)) (words_in pl f c) (λ (chosen : Words). chosen (seen true c s.memory c) ≡ true)
      (λ e. let m : Means pl start (stepped pl true c f) (after_pointer true c s) ks = pointer_means true c f s ks ss top var h in
      let v : vals s.ac (seen true c s.memory) (Cell c) ≡ seen true c s.memory c = value_of pl.declaration start s.ac (seen true c s.memory) c (var e) in
      subst (λ x. (stepped pl true c f).set (Cell c) x ≡ true) v (m.holds.sets (Cell c)))
      (λ e. let x : seen true c s.memory c ≡ s.memory c = rw e in rw x (word_true f s ks c ss h))

  -- ---- outcomes that come about

  pub alive_true : (p changed : Words) (f g : Fact) (s t : State) (ks : Calls) → IsState s → IsState t → Means pl start f s ks → Means pl start g t ks →
      has_some p ≡ true → has_some changed ≡ true → alive pl p f changed g ≡ true
  alive_true p changed f g s t ks ss ts h m hp hc = go pl.rules
    where
      go : (rules : Rules) → is_alive rules p (ac_of pl f) changed g ≡ true
      go OfSums = hp
      go OfEquations =
          and_from _ _ hp (and_from _ _ (some_from 4096 (ac_of pl f) s.ac ss.ac (ac_true f s ks ss h))
          (and_from _ _ (some_from 4096 (g.set Ac) t.ac ts.ac (m.holds.sets Ac)) (and_from _ _ (some_from 4096 g.mq t.mq ts.mq m.mq) (and_from _ _ (some_from 2 g.link t.link ts.link m.link) hc))))

  pub goes_to : (p changed next : Words) (f g : Fact) (s t : State) (ks : Calls) → IsState s → IsState t → Means pl start f s ks → Means pl start g t ks →
      has_some p ≡ true → has_some changed ≡ true → next t.pc ≡ true → SomeOutcome (LandsIn pl start t ks) (goes pl p f changed next g)
  goes_to p changed next f g s t ks ss ts h m hp hc n = some_given (LandsIn pl start t ks) _ _ (alive_true p changed f g s t ks ss ts h m hp hc) (n, m)

  pub some_target : (p : Words) (y : ℕ) → y < 4096 → p y ≡ true → has_some p ≡ true
  some_target p y lt e = some_from 4096 p y lt e
