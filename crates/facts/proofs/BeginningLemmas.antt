-- The fact of all starts as a part: it has neither relations nor chains, so narrowing leaves it as it is.
use Rattle.std.proofs.Common.{◌≡◌, ℕ, ◌+◌, ◌<◌, ◌≤◌, Bool, true, false, ◌&&◌, ◌||◌, Option, Some, None, List, [], ◌∷◌, drop, length, refl, sym, ap, ◌∙◌, subst, inl, inr, lit<}
use Rattle.std.specs.Prelude.{IsTrue, ◌↔◌, ◌⊎◌, not, if◌then◌else◌, nat_lt}
use Rattle.std.proofs.lemmas.Bool.{cond_both, lt-ltb, eq-eqb, eqb-true, true≢false, false≢true, cases_lt}
use Rattle.std.proofs.Math.Path.{fun_ext}
use Rattle.wordset.specs.Words.{Words, all_words, nothing, meet, one, sums, some_below, has_some, has_link}
use Rattle.wordset.proofs.Tests.{some_from, some_none_of}
use Rattle.wordset.proofs.SetLemmas.{all_past}
use Rattle.bin_tape.specs.Image.{word_at, HoldsWords}
use Rattle.peripherals.specs.Loading.{image_of}
use Rattle.processor.specs.Runs.{Image}
use Rattle.domain.specs.Locations.{Location, Ac, Cell, same, tape_word}
use Rattle.domain.specs.Terms.{Sum, Summand}
use Rattle.domain.specs.Facts.{Relation, Fact, Place}
use Rattle.domain.specs.Adding.{with_set, with_name, lacks_all, is_void, times, set_of_sum, set_of_shape, set_among}
use Rattle.domain.specs.InCode.{summand_at}
use Rattle.domain.specs.Knowing.{words_of_term, said_of}
use Rattle.domain.proofs.SaidLemmas.{said_one, said_more}
use Rattle.domain.specs.Narrowing.{narrowed}
use Rattle.facts.specs.Entailment.{Entails, IsVoid, met_at, with_one_link}
use Rattle.facts.specs.Landing.{Takes}
use Rattle.facts.specs.Starts.{start_fact, words_at_start}
use Rattle.facts.proofs.StartLemmas.{tape_words}

and_true : (b : Bool) → (b && true) ≡ b
and_true true = refl
and_true false = refl

-- A fact of sets alone.
abbrev pub plain : (Location → Words) → Words → Words → Words → Words → Fact
plain sets mq link sites offsets = record { set = sets; relations = []; chains = []; mq = mq; link = link; sites = sites; offsets = offsets }

pub narrowed_plain : (image : Image) (sets : Location → Words) (mq link sites offsets : Words) → narrowed image (plain sets mq link sites offsets) ≡ plain sets mq link sites offsets
unfolding narrowed
narrowed_plain image sets mq link sites offsets = ap (λ (k : Words). plain sets mq k sites offsets) (fun_ext (λ l. and_true (link l)))

-- The fact of all starts with some links.
abbrev pub begun : Image → Words → Fact
begun image links = record (start_fact image) { link = links }

pub one_link_begun : (pl : Place) (l : ℕ) → with_one_link pl l (start_fact pl.image) ≡ begun pl.image (one l)
one_link_begun pl l = narrowed_plain pl.image (words_at_start pl.image) all_words (one l) nothing nothing

pub met_begun : (pl : Place) (image : Image) (n : Location) (links : Words) (b : Fact) →
    met_at pl n (begun image links) b ≡ with_name n (meet (words_at_start image n) (b.set n)) (begun image links)
met_begun pl image n links b = narrowed_plain pl.image _ all_words links nothing nothing

pub whole_begun : (pl : Place) (image : Image) (links : Words) → narrowed pl.image (begun image links) ≡ begun image links
whole_begun pl image links = narrowed_plain pl.image (words_at_start image) all_words links nothing nothing

-- which names have words at a start
all_there : has_some all_words ≡ true
all_there = some_from 4096 all_words 0 (lit< tt) (lt-ltb 0 4096 (lit< tt))

tape_there : (o : Option ℕ) → ((w : ℕ) → o ≡ Some w → w < 4096) → has_some (tape_word o) ≡ true
tape_there None small = all_there
tape_there (Some w) small = some_from 4096 (tape_word (Some w)) w (small w refl) (eq-eqb w w refl)

has_not : (b : Bool) → b ≡ true → not b ≡ false
has_not true h = refl
has_not false h = absurd (false≢true h)

or_both : (a b : Bool) → a ≡ false → b ≡ false → (a || b) ≡ false
or_both false false e f = refl
or_both true b e f = absurd (true≢false e)
or_both false true e f = absurd (true≢false f)

or_first : (a b : Bool) → a ≡ true → (a || b) ≡ true
or_first true b h = refl
or_first false b h = absurd (false≢true h)

or_second : (a b : Bool) → b ≡ true → (a || b) ≡ true
or_second true b h = refl
or_second false b h = h

module _ (image : Image) (small : (a w : ℕ) → image a ≡ Some w → w < 4096) where
  start_there : (m : Location) → has_some (words_at_start image m) ≡ true
  start_there Ac = all_there
  start_there (Cell a) = tape_there (image a) (small a)

  set_there : (n : Location) (s : Words) → has_some s ≡ true → (m : Location) → has_some (with_set n s (words_at_start image) m) ≡ true
  set_there n s h m = cond_both (same m n) s (words_at_start image m) (λ (w : Words). has_some w ≡ true) (λ e. h) (λ e. start_there m)

  -- where the link and the name have something, some state may satisfy the fact
  not_void : (n : Location) (s links : Words) → has_link links ≡ true → has_some s ≡ true → is_void (with_name n s (begun image links)) ≡ false
  not_void n s links linked h =
      or_both _ _ (has_not _ all_there) (or_both _ _ (has_not _ linked) (or_both _ _ (has_not _ (set_there n s h Ac))
      (or_both _ _ (some_none_of 4096 (λ a. lacks_all (with_set n s (words_at_start image) (Cell a))) (λ a lt. has_not _ (set_there n s h (Cell a)))) refl)))

  pub begun_not_void : (links : Words) → has_link links ≡ true → is_void (begun image links) ≡ false
  begun_not_void links linked =
      or_both _ _ (has_not _ all_there) (or_both _ _ (has_not _ linked) (or_both _ _ (has_not _ (start_there Ac))
      (or_both _ _ (some_none_of 4096 (λ a. lacks_all (words_at_start image (Cell a))) (λ a lt. has_not _ (start_there (Cell a)))) refl)))

  pub begun_void_is : (links : Words) → is_void (begun image links) ≡ not (has_link links)
  begun_void_is links = go (has_link links) refl
    where
      go : (b : Bool) → has_link links ≡ b → is_void (begun image links) ≡ not b
      go true e = begun_not_void links e
      go false e = or_second _ _ (or_first _ _ (ap not e))

pub not_linked : (links : Words) → not (has_link links) ≡ true → has_link links ≡ false
not_linked links h = go (has_link links) h
  where
    go : (b : Bool) → not b ≡ true → b ≡ false
    go true e = absurd (false≢true e)
    go false e = refl

pub linked : (links : Words) → not (has_link links) ≡ false → has_link links ≡ true
linked links h = go (has_link links) h
  where
    go : (b : Bool) → not b ≡ false → b ≡ true
    go true e = refl
    go false e = absurd (true≢false e)

-- where the link has nothing, none does
unlinked_void : (image : Image) (n : Location) (s links : Words) → has_link links ≡ false → is_void (with_name n s (begun image links)) ≡ true
unlinked_void image n s links e = or_second _ _ (or_first _ _ (ap not e))

same_self : (n : Location) → same n n ≡ true
same_self Ac = refl
same_self (Cell a) = eq-eqb a a refl

own_set : (image : Image) (n : Location) (s : Words) → with_set n s (words_at_start image) n ≡ s
own_set image n s = cond_both (same n n) s (words_at_start image n) (λ (w : Words). w ≡ s) (λ e. refl) (λ e. absurd (true≢false (sym (same_self n) ∙ e)))

-- nor where the name has none
empty_void : (image : Image) (n : Location) (s links : Words) → ((x : ℕ) → n ≡ Cell x → x < 4096) → has_some s ≡ false → is_void (with_name n s (begun image links)) ≡ true
empty_void image Ac s links inside e = or_second _ _ (or_second _ _ (or_first _ _ (ap lacks_all (own_set image Ac s) ∙ ap not e)))
empty_void image (Cell x) s links inside e =
    let sets : Location → Words = with_set (Cell x) s (words_at_start image) in
    let cells : Bool = some_below 4096 (λ a. lacks_all (sets (Cell a))) in
    or_second (lacks_all all_words) (not (has_link links) || (lacks_all (sets Ac) || (cells || false))) (or_second (not (has_link links)) (lacks_all (sets Ac) || (cells || false))
    (or_second (lacks_all (sets Ac)) (cells || false) (or_first cells false
    (some_from 4096 (λ a. lacks_all (sets (Cell a))) x (inside x refl) (ap lacks_all (own_set image (Cell x) s) ∙ ap not e)))))

-- what a fact takes of the part of all starts
module _ (pl : Place) (image : Image) (n : Location) (links : Words) (b : Fact) where
  taken_by : (IsVoid (with_name n (meet (words_at_start image n) (b.set n)) (begun image links)) ⊎ Entails pl (with_name n (meet (words_at_start image n) (b.set n)) (begun image links)) b) →
      Takes pl n (begun image links) b
  taken_by h = subst (λ (m : Fact). IsVoid m ⊎ Entails pl m b) (sym (met_begun pl image n links b)) h

  pub unlinked_taken : has_link links ≡ false → IsTrue true ↔ Takes pl n (begun image links) b
  unlinked_taken e = (λ t. taken_by (inl (unlinked_void image n _ links e)), λ k. refl)

  pub empty_taken : (both : Words) → ((x : ℕ) → n ≡ Cell x → x < 4096) → both ≡ meet (words_at_start image n) (b.set n) → has_some both ≡ false → IsTrue true ↔ Takes pl n (begun image links) b
  empty_taken both inside is e = (λ t. taken_by (inl (empty_void image n _ links inside (ap has_some (sym is) ∙ e))), λ k. refl)

  pub entailed_taken : (t : Bool) (both : Words) (fact : Fact) → ((a w : ℕ) → image a ≡ Some w → w < 4096) → has_link links ≡ true →
      both ≡ meet (words_at_start image n) (b.set n) → has_some both ≡ true → fact ≡ with_name n both (begun image links) → (IsTrue t ↔ Entails pl fact b) → IsTrue t ↔ Takes pl n (begun image links) b
  entailed_taken t both fact small linked is some made h =
      let whole : fact ≡ with_name n (meet (words_at_start image n) (b.set n)) (begun image links) = made ∙ ap (λ (s : Words). with_name n s (begun image links)) is in (
        λ q. taken_by (inr (subst (λ (f : Fact). Entails pl f b) whole (h.0 q))),
        λ k. elim (subst (λ (m : Fact). IsVoid m ⊎ Entails pl m b) (met_begun pl image n links b) k) [
          | inl v ↦ absurd (true≢false (sym v ∙ not_void image small n _ links linked (ap has_some (sym is) ∙ some)))
          | inr e ↦ h.1 (subst (λ (f : Fact). Entails pl f b) (sym whole) e)
        ],
      )

-- what a start leaves to a name
pub start_beyond : (cells : List (Option ℕ)) (a : ℕ) → 4096 ≤ a → words_at_start (image_of cells) (Cell a) ≡ all_words
start_beyond cells a past = cond_both (nat_lt a 4096) (word_at cells a) None (λ (o : Option ℕ). tape_word o ≡ all_words)
    (λ e. absurd (true≢false (sym e ∙ all_past a past))) (λ e. refl)

pub start_words : (cells : List (Option ℕ)) → HoldsWords cells → (n : Location) (v : ℕ) → words_at_start (image_of cells) n v ≡ true → v < 4096
start_words cells holds Ac v h = any v h
  where
    any : (v : ℕ) → all_words v ≡ true → v < 4096
    any v h = elim (cases_lt v 4096) [ inl lt ↦ lt | inr past ↦ absurd (true≢false (sym h ∙ all_past v past)) ]
start_words cells holds (Cell a) v h = one_of (image_of cells a) refl h
  where
    any : (v : ℕ) → all_words v ≡ true → v < 4096
    any v h = elim (cases_lt v 4096) [ inl lt ↦ lt | inr past ↦ absurd (true≢false (sym h ∙ all_past v past)) ]

    one_of : (o : Option ℕ) → image_of cells a ≡ o → tape_word o v ≡ true → v < 4096
    one_of None e k = any v k
    one_of (Some w) e k = (let is : v ≡ w = eqb-true v w k in let lt : w < 4096 = tape_words cells holds a w e in subst (λ x. x < 4096) (sym is) lt)

-- what the fact says of the terms of a sum from one on
pub last_said : (image : Image) (f : Fact) (xs : Sum) (i : ℕ) (s : Summand) (first all : Words) → i + 1 ≡ length xs → s ≡ summand_at xs i →
    first ≡ words_of_term image f s.term → all ≡ times s.coefficient first → all ≡ said_of image f (drop i xs)
last_said image f xs i s first all last is ef ea =
    ea ∙ ap (times s.coefficient) ef ∙ ap (λ (x : Summand). times x.coefficient (words_of_term image f x.term)) is ∙ said_one image f xs i last

pub more_said : (image : Image) (f : Fact) (xs part : Sum) (i : ℕ) (s : Summand) (first all rest both given place : Words) → i + 1 < length xs → s ≡ summand_at xs i →
    first ≡ words_of_term image f s.term → all ≡ times s.coefficient first → rest ≡ said_of image f (drop (i + 1) xs) → both ≡ sums all rest →
    part ≡ drop i xs → given ≡ set_of_sum f part → place ≡ meet given both → place ≡ said_of image f (drop i xs)
more_said image f xs part i s first all rest both given place more is ef ea er eb ep eg em =
    em ∙ ap (meet given) (eb ∙ ap (sums all) er ∙ ap (λ (w : Words). sums w (said_of image f (drop (i + 1) xs)))
    (ea ∙ ap (times s.coefficient) ef ∙ ap (λ (x : Summand). times x.coefficient (words_of_term image f x.term)) is))
    ∙ ap (λ (g : Words). meet g (sums (times (summand_at xs i).coefficient (words_of_term image f (summand_at xs i).term)) (said_of image f (drop (i + 1) xs)))) (eg ∙ ap (set_of_sum f) ep)
    ∙ said_more image f xs i more

-- the words of a name that has those of a set
pub chosen_there : (image : Image) (n m : Location) (s w : Words) (b : Bool) → b ≡ same m n → (b ≡ true → w ≡ s) → (b ≡ false → w ≡ words_at_start image m) →
    w ≡ with_set n s (words_at_start image) m
chosen_there image n m s w b e first second = subst (λ (t : Bool). w ≡ (if t then s else words_at_start image m)) e (go b first second)
  where
    go : (t : Bool) → (t ≡ true → w ≡ s) → (t ≡ false → w ≡ words_at_start image m) → w ≡ (if t then s else words_at_start image m)
    go true f g = f refl
    go false f g = g refl

-- the fact in which AC has all words, as it has anyway
pub any_ac : (image : Image) (links : Words) → with_name Ac all_words (begun image links) ≡ begun image links
any_ac image links = ap (λ (sets : Location → Words). plain sets all_words links nothing nothing) (fun_ext each)
  where
    each : (m : Location) → with_set Ac all_words (words_at_start image) m ≡ words_at_start image m
    each Ac = refl
    each (Cell a) = refl

-- Of a sum of no term or of several, a fact without relations says nothing.
pub not_of_one : (f : Fact) (xs : Sum) → f.relations ≡ [] → (length xs ≡ 1 → ⊥) → all_words ≡ set_of_shape f xs
not_of_one f [] none other = refl
not_of_one f (x ∷ []) none other = absurd (other refl)
not_of_one f (x ∷ y ∷ ys) none other = ap (λ (rs : List Relation). set_among (x ∷ y ∷ ys) rs) (sym none)
