-- What a chain gives of words of its cell, as it is gathered in code.
use Rattle.std.proofs.Common.{◌≡◌, ℕ, zero, suc, ◌+◌, ◌%◌, ◌-◌, ◌<◌, ◌≤◌, ◌==◌, Bool, true, false, ◌&&◌, ◌||◌, List, map, drop, get_or, length, refl, sym, ap, ◌∙◌, arith, inl, inr}
use Rattle.std.specs.Prelude.{if◌then◌else◌}
use Rattle.std.specs.List.{list_all}
use Rattle.std.proofs.Math.Path.{fun_ext}
use Rattle.std.proofs.Math.ListN.{drop_of_length-le}
use Rattle.std.proofs.lemmas.Bool.{cases_Bool, cases_lt, eq-eqb, ne_eqb, eqb-true}
use Rattle.std.proofs.lemmas.List.{at_drop_more}
use Rattle.wordset.specs.Words.{plus, Words, some_below, nothing, all_words, all_links, with_word}
use Rattle.wordset.specs.Lanes.{words}
use Rattle.wordset.specs.Links.{links_of}
use Rattle.wordset.specs.declared.links.Links.{Links}
use Rattle.wordset.proofs.SetLemmas.{lt_to, all_past}
use Rattle.wordset.proofs.Tests.{some_from, some_to, IsSome, both_ways, and_both, and_first, and_second, some_none_of, some_of_two, true_false}
use Rattle.domain.specs.Locations.{Cell, Ac}
use Rattle.domain.specs.Facts.{Fact}
use Rattle.domain.specs.Chains.{Chain, after_steps, is_pair_of}
use Rattle.domain.specs.ChainsInCode.{gives_from}
use Rattle.domain.specs.Narrowing.{may_give, links_of_chain}
use Rattle.domain.specs.Given.{IsEmpty, is_allowed_pair, gives_allowed_from, gives_allowed, cells_given, accumulators_given, differences_given, links_given, AddsGiven, AddsAllGiven}
use Rattle.domain.specs.declared.narrowing.ChainWords.{ChainWords}

-- ---- tests

or_idle : (p q : Bool) → q ≡ false → p ≡ (p || q)
or_idle true q e = refl
or_idle false q e = sym e

or_sure : (p q r : Bool) → q ≡ r → (p || q) ≡ (p || r)
or_sure p q r e = ap (λ b. p || b) e

or_three : (p q r : Bool) → ((p || q) || r) ≡ (p || (q || r))
or_three true q r = refl
or_three false q r = refl

or_across : (p q r s : Bool) → ((p || q) || (r || s)) ≡ ((p || r) || (q || s))
or_across true q r s = refl
or_across false true true s = refl
or_across false true false s = refl
or_across false false true s = refl
or_across false false false s = refl

and_idle : (p q : Bool) → q ≡ false → (p && q) ≡ false
and_idle true q e = e
and_idle false q e = refl

-- One of two tests passes.
some_or : (n : ℕ) (a b : ℕ → Bool) → (some_below n a || some_below n b) ≡ some_below n (λ x. a x || b x)
unfolding some_below
some_or zero a b = refl
some_or (suc n) a b = or_across (a n) (some_below n a) (b n) (some_below n b) ∙ ap (λ r. (a n || b n) || r) (some_or n a b)

-- What passes besides goes along.
and_some : (p : Bool) (n : ℕ) (t : ℕ → Bool) → (p && some_below n t) ≡ some_below n (λ x. p && t x)
and_some true n t = refl
and_some false n t = sym (some_none_of n (λ x. false) (λ v h. refl))

some_same : (n : ℕ) (a b : ℕ → Bool) → ((x : ℕ) → a x ≡ b x) → some_below n a ≡ some_below n b
some_same n a b h = ap (some_below n) (fun_ext h)

-- One number alone is looked for.
some_one : (n m : ℕ) (q : Bool) → m < n → some_below n (λ w. (w == m) && q) ≡ q
some_one n m q lt = both_ways (some_below n (λ w. (w == m) && q)) q
    (λ e. let s : IsSome n (λ w. (w == m) && q) = some_to n (λ w. (w == m) && q) e in and_second (s.at == m) q s.holds)
    (λ e. some_from n (λ w. (w == m) && q) m lt (and_both (m == m) q (eq-eqb m m refl) e))

-- ---- nothing is given

pub adds_none : (g : ℕ → ℕ → Bool) (x : ℕ) (c : ChainWords) → ((w l : ℕ) → g w l ≡ false) → AddsGiven g x c c
adds_none g x c none =
    let of_links : (w : ℕ) → some_below 2 (λ l. g w l) ≡ false = λ w. some_none_of 2 (λ l. g w l) (λ l h. none w l) in
    record {
      cells = λ v. or_idle (words c.cells v) (cells_given g x v) (and_idle (v == x) (some_below 4096 (λ w. some_below 2 (λ l. g w l))) (some_none_of 4096 (λ w. some_below 2 (λ l. g w l)) (λ w h. of_links w)));
      accumulators = λ w. or_idle (words c.accumulators w) (accumulators_given g x w) (of_links w);
      differences = λ d. or_idle (words c.differences d) (differences_given g x d) (and_idle (all_words d) (some_below 2 (λ l. g (plus x d) l)) (of_links (plus x d)));
      links = λ l. or_idle (links_of c.links l) (links_given g x l) (and_idle (all_links l) (some_below 4096 (λ w. g w l)) (some_none_of 4096 (λ w. g w l) (λ w h. none w l)));
    }

-- The pair is not allowed.
pub no_accumulator : (ac links : Words) (m a w l : ℕ) → ac m ≡ false → is_allowed_pair ac links m a w l ≡ false
no_accumulator ac links m a w l lacks = elim (cases_Bool (m == w)) [
  | inl e ↦ (let here : ac w ≡ false = ap ac (sym (eqb-true m w e)) ∙ lacks in rw here refl)
  | inr n ↦ and_idle (ac w) (links l && ((m == w) && (a == l))) (and_idle (links l) ((m == w) && (a == l)) (ap (λ b. b && (a == l)) n))
]

pub no_link : (ac links : Words) (m a w l : ℕ) → links a ≡ false → is_allowed_pair ac links m a w l ≡ false
no_link ac links m a w l lacks = and_idle (ac w) (links l && ((m == w) && (a == l))) (elim (cases_Bool (a == l)) [
  | inl e ↦ (let here : links l ≡ false = ap links (sym (eqb-true a l e)) ∙ lacks in ap (λ b. b && ((m == w) && (a == l))) here)
  | inr n ↦ and_idle (links l) ((m == w) && (a == l)) (and_idle (m == w) (a == l) n)
])

-- A chain that does not begin with the link gives nothing.
pub none_begins : (ac links : Words) (c : Chain) (k v w l : ℕ) → c.link k ≡ false → gives_allowed_from ac links c k v w l ≡ false
none_begins ac links c k v w l lacks = and_idle (ac w) (links l && gives_from c k v w l) (and_idle (links l) (gives_from c k v w l) (ap (λ b. b && is_pair_of (after_steps c.steps (plus v c.more, k)) w l) lacks))

-- ---- one pair is given

-- Where the link is one of those, the chain gives the pair alone.
pub gives_pair : (ac links : Words) (c : Chain) (k v m a : ℕ) → c.link k ≡ true → (m, a) ≡ after_steps c.steps (plus v c.more, k) →
    is_allowed_pair ac links m a ≡ gives_allowed_from ac links c k v
gives_pair ac links c k v m a begins e = fun_ext (λ w. fun_ext (λ l.
    ap (λ (p : ℕ × ℕ). ac w && (links l && is_pair_of p w l)) e ∙ ap (λ b. ac w && (links l && (b && is_pair_of (after_steps c.steps (plus v c.more, k)) w l))) (sym begins)))

pair_accumulators : (ac links : Words) (m a w : ℕ) → a < 2 → ac m ≡ true → links a ≡ true → (w == m) ≡ some_below 2 (λ l. is_allowed_pair ac links m a w l)
pair_accumulators ac links m a w small has one = both_ways (w == m) (some_below 2 (λ l. is_allowed_pair ac links m a w l))
    (λ e. let same : w ≡ m = eqb-true w m e in some_from 2 (λ l. is_allowed_pair ac links m a w l) a small
    (and_both (ac w) (links a && ((m == w) && (a == a))) (ap ac same ∙ has)
    (and_both (links a) ((m == w) && (a == a)) one (and_both (m == w) (a == a) (eq-eqb m w (sym same)) (eq-eqb a a refl)))))
    (λ e. let s : IsSome 2 (λ l. is_allowed_pair ac links m a w l) = some_to 2 (λ l. is_allowed_pair ac links m a w l) e in
    let rest : (links s.at && ((m == w) && (a == s.at))) ≡ true = and_second (ac w) (links s.at && ((m == w) && (a == s.at))) s.holds in
    let both : ((m == w) && (a == s.at)) ≡ true = and_second (links s.at) ((m == w) && (a == s.at)) rest in
    eq-eqb w m (sym (eqb-true m w (and_first (m == w) (a == s.at) both))))

pair_links : (ac links : Words) (m a l : ℕ) → m < 4096 → ac m ≡ true → links a ≡ true → (l == a) ≡ some_below 4096 (λ w. is_allowed_pair ac links m a w l)
pair_links ac links m a l small has one = both_ways (l == a) (some_below 4096 (λ w. is_allowed_pair ac links m a w l))
    (λ e. let same : l ≡ a = eqb-true l a e in some_from 4096 (λ w. is_allowed_pair ac links m a w l) m small
    (and_both (ac m) (links l && ((m == m) && (a == l))) has
    (and_both (links l) ((m == m) && (a == l)) (ap links same ∙ one) (and_both (m == m) (a == l) (eq-eqb m m refl) (eq-eqb a l (sym same))))))
    (λ e. let s : IsSome 4096 (λ w. is_allowed_pair ac links m a w l) = some_to 4096 (λ w. is_allowed_pair ac links m a w l) e in
    let rest : (links l && ((m == s.at) && (a == l))) ≡ true = and_second (ac s.at) (links l && ((m == s.at) && (a == l))) s.holds in
    let both : ((m == s.at) && (a == l)) ≡ true = and_second (links l) ((m == s.at) && (a == l)) rest in
    eq-eqb l a (sym (eqb-true a l (and_second (m == s.at) (a == l) both))))

pair_difference : (x m d : ℕ) → x < 4096 → m < 4096 → (d == (m + (0 + (4096 - x % 4096)) % 4096) % 4096) ≡ (all_words d && (plus x d == m))
pair_difference x m d sx sm = both_ways (d == (m + (0 + (4096 - x % 4096)) % 4096) % 4096) (all_words d && (plus x d == m))
    (λ e. let is : d ≡ (m + (0 + (4096 - x % 4096)) % 4096) % 4096 = eqb-true d ((m + (0 + (4096 - x % 4096)) % 4096) % 4096) e in
    let below : d < 4096 = omega (arith, is) in
    let sum : (x + d) % 4096 ≡ m = omega (arith, is, sx, sm) in
    and_both (all_words d) (plus x d == m) (lt_to d below) (eq-eqb (plus x d) m sum))
    (λ e. let below : d < 4096 = elim (cases_lt d 4096) [ inl lt ↦ lt | inr past ↦ absurd (true_false (sym (and_first (all_words d) (plus x d == m) e) ∙ all_past d past)) ] in
    let sum : (x + d) % 4096 ≡ m = eqb-true (plus x d) m (and_second (all_words d) (plus x d == m) e) in
    eq-eqb d ((m + (0 + (4096 - x % 4096)) % 4096) % 4096) (omega (arith, below, sum, sx, sm)))

link_yes : (l a : ℕ) → a < 2 → (l == a) ≡ (all_links l && (l == a))
link_yes l a small = both_ways (l == a) (all_links l && (l == a))
    (λ e. let same : l ≡ a = eqb-true l a e in and_both (all_links l) (l == a) (lt_two l (omega (arith, same, small))) e)
    (λ e. and_second (all_links l) (l == a) e)
  where
    lt_two : (l : ℕ) → l < 2 → all_links l ≡ true
    lt_two l h = grind (arith, h)

-- The pair and what follows from it are added.
pub adds_pair : (ac links : Words) (x m a : ℕ) (old new : ChainWords) → x < 4096 → m < 4096 → a < 2 → ac m ≡ true → links a ≡ true →
    words new.cells ≡ with_word x (words old.cells) → words new.accumulators ≡ with_word m (words old.accumulators) →
    words new.differences ≡ with_word ((m + (0 + (4096 - x % 4096)) % 4096) % 4096) (words old.differences) → links_of new.links ≡ with_word a (links_of old.links) →
    AddsGiven (is_allowed_pair ac links m a) x old new
adds_pair ac links x m a old new sx sm sa has one ec ew ed el =
    let there : some_below 4096 (λ w. some_below 2 (λ l. is_allowed_pair ac links m a w l)) ≡ true =
    some_from 4096 (λ w. some_below 2 (λ l. is_allowed_pair ac links m a w l)) m sm (sym (pair_accumulators ac links m a m sa has one) ∙ eq-eqb m m refl) in
    record {
      cells = λ v. ap (λ (s : Words). s v) ec ∙ or_sure (words old.cells v) (v == x) (cells_given (is_allowed_pair ac links m a) x v) (and_sure (v == x) there);
      accumulators = λ w. ap (λ (s : Words). s w) ew ∙ or_sure (words old.accumulators w) (w == m) (accumulators_given (is_allowed_pair ac links m a) x w) (pair_accumulators ac links m a w sa has one);
      differences = λ d. ap (λ (s : Words). s d) ed ∙ or_sure (words old.differences d) (d == (m + (0 + (4096 - x % 4096)) % 4096) % 4096) (differences_given (is_allowed_pair ac links m a) x d)
          (pair_difference x m d sx sm ∙ ap (λ b. all_words d && b) (pair_accumulators ac links m a (plus x d) sa has one));
      links = λ l. ap (λ (s : Words). s l) el ∙ or_sure (links_of old.links l) (l == a) (links_given (is_allowed_pair ac links m a) x l)
          (link_yes l a sa ∙ ap (λ b. all_links l && b) (pair_links ac links m a l sm has one));
    }
  where
    and_sure : (p : Bool) {q : Bool} → q ≡ true → p ≡ (p && q)
    and_sure true e = sym e
    and_sure false e = refl

-- ---- one link and the other

guarded : (p q r s : Bool) → (q || r) ≡ s → ((p && q) || (p && r)) ≡ (p && s)
guarded true q r s e = e
guarded false q r s e = refl

-- What two tests give is what either of them gives.
pub adds_both : (g h j : ℕ → ℕ → Bool) (x : ℕ) (old mid new : ChainWords) → ((w l : ℕ) → (g w l || h w l) ≡ j w l) → AddsGiven g x old mid → AddsGiven h x mid new → AddsGiven j x old new
adds_both g h j x old mid new each first second =
    let of_links : (w : ℕ) → (some_below 2 (λ l. g w l) || some_below 2 (λ l. h w l)) ≡ some_below 2 (λ l. j w l) =
    λ w. some_or 2 (λ l. g w l) (λ l. h w l) ∙ some_same 2 (λ l. g w l || h w l) (λ l. j w l) (λ l. each w l) in
    let of_words : (l : ℕ) → (some_below 4096 (λ w. g w l) || some_below 4096 (λ w. h w l)) ≡ some_below 4096 (λ w. j w l) =
    λ l. some_or 4096 (λ w. g w l) (λ w. h w l) ∙ some_same 4096 (λ w. g w l || h w l) (λ w. j w l) (λ w. each w l) in
    let of_all : (some_below 4096 (λ w. some_below 2 (λ l. g w l)) || some_below 4096 (λ w. some_below 2 (λ l. h w l))) ≡ some_below 4096 (λ w. some_below 2 (λ l. j w l)) =
    some_or 4096 (λ w. some_below 2 (λ l. g w l)) (λ w. some_below 2 (λ l. h w l)) ∙ some_same 4096 (λ w. some_below 2 (λ l. g w l) || some_below 2 (λ l. h w l)) (λ w. some_below 2 (λ l. j w l)) of_links in
    record {
      cells = λ v. together (words old.cells v) (cells_given g x v) (cells_given h x v) (first.cells v) (second.cells v)
          (guarded (v == x) (some_below 4096 (λ w. some_below 2 (λ l. g w l))) (some_below 4096 (λ w. some_below 2 (λ l. h w l))) (some_below 4096 (λ w. some_below 2 (λ l. j w l))) of_all);
      accumulators = λ w. together (words old.accumulators w) (accumulators_given g x w) (accumulators_given h x w) (first.accumulators w) (second.accumulators w) (of_links w);
      differences = λ d. together (words old.differences d) (differences_given g x d) (differences_given h x d) (first.differences d) (second.differences d)
          (guarded (all_words d) (some_below 2 (λ l. g (plus x d) l)) (some_below 2 (λ l. h (plus x d) l)) (some_below 2 (λ l. j (plus x d) l)) (of_links (plus x d)));
      links = λ l. together (links_of old.links l) (links_given g x l) (links_given h x l) (first.links l) (second.links l)
          (guarded (all_links l) (some_below 4096 (λ w. g w l)) (some_below 4096 (λ w. h w l)) (some_below 4096 (λ w. j w l)) (of_words l));
    }
  where
    together : (p q r : Bool) {m n s : Bool} → m ≡ (p || q) → n ≡ (m || r) → (q || r) ≡ s → n ≡ (p || s)
    together p q r e f h = f ∙ ap (λ b. b || r) e ∙ or_three p q r ∙ ap (λ b. p || b) h

either_link : (p q r s : Bool) → ((p && (q && r)) || (p && (q && s))) ≡ (p && (q && (r || s)))
either_link true true r s = refl
either_link true false r s = refl
either_link false q r s = refl

-- A chain gives what it gives from one link or from the other.
pub from_either : (ac links : Words) (c : Chain) (v w l : ℕ) → (gives_allowed_from ac links c 0 v w l || gives_allowed_from ac links c 1 v w l) ≡ gives_allowed ac links c v w l
from_either ac links c v w l =
    either_link (ac w) (links l) (gives_from c 0 v w l) (gives_from c 1 v w l) ∙ ap (λ b. ac w && (links l && b)) (sym (some_of_two (λ k. gives_from c k v w l)))

-- ---- what a chain gives of all words of its cell

one_of_set : (set t : ℕ → Bool) (v : ℕ) → v < 4096 → some_below 4096 (λ x. set x && ((v == x) && t x)) ≡ (set v && t v)
one_of_set set t v small = both_ways (some_below 4096 (λ x. set x && ((v == x) && t x))) (set v && t v)
    (λ e. let s : IsSome 4096 (λ x. set x && ((v == x) && t x)) = some_to 4096 (λ x. set x && ((v == x) && t x)) e in
    let rest : ((v == s.at) && t s.at) ≡ true = and_second (set s.at) ((v == s.at) && t s.at) s.holds in
    let same : v ≡ s.at = eqb-true v s.at (and_first (v == s.at) (t s.at) rest) in
    and_both (set v) (t v) (ap set same ∙ and_first (set s.at) ((v == s.at) && t s.at) s.holds) (ap t same ∙ and_second (v == s.at) (t s.at) rest))
    (λ e. some_from 4096 (λ x. set x && ((v == x) && t x)) v small
    (and_both (set v) ((v == v) && t v) (and_first (set v) (t v) e) (and_both (v == v) (t v) (eq-eqb v v refl) (and_second (set v) (t v) e))))

from_nothing : (s : Words) (old : Words) (v : ℕ) (b : Bool) → old ≡ nothing → s v ≡ (old v || b) → s v ≡ b
from_nothing s old v b none e = e ∙ ap (λ (o : Words). o v || b) none

module _ (f : Fact) (c : Chain) (ac set links : Words) (old new : ChainWords) (is_ac : ac ≡ f.set Ac) (is_set : set ≡ f.set (Cell c.cell)) (is_link : links ≡ f.link)
    (none : IsEmpty old) (all : AddsAllGiven (gives_allowed ac links c) set old new) where
  given_as : (v w l : ℕ) → (set v && gives_allowed ac links c v w l) ≡ may_give f c v w l
  given_as v w l = rw (is_ac, is_set, is_link) refl

  pub in_cells : (v : ℕ) → v < 4096 → words new.cells v ≡ some_below 4096 (λ w. some_below 2 (λ l. may_give f c v w l))
  in_cells v small =
      from_nothing (words new.cells) (words old.cells) v _ none.cells (all.cells v)
      ∙ one_of_set set (λ x. some_below 4096 (λ w. some_below 2 (λ l. gives_allowed ac links c x w l))) v small
      ∙ and_some (set v) 4096 (λ w. some_below 2 (λ l. gives_allowed ac links c v w l))
      ∙ some_same 4096 (λ w. set v && some_below 2 (λ l. gives_allowed ac links c v w l)) (λ w. some_below 2 (λ l. may_give f c v w l))
      (λ w. and_some (set v) 2 (λ l. gives_allowed ac links c v w l) ∙ some_same 2 (λ l. set v && gives_allowed ac links c v w l) (λ l. may_give f c v w l) (λ l. given_as v w l))

  pub in_accumulators : (w : ℕ) → words new.accumulators w ≡ some_below 4096 (λ v. some_below 2 (λ l. may_give f c v w l))
  in_accumulators w =
      from_nothing (words new.accumulators) (words old.accumulators) w _ none.accumulators (all.accumulators w)
      ∙ some_same 4096 (λ v. set v && some_below 2 (λ l. gives_allowed ac links c v w l)) (λ v. some_below 2 (λ l. may_give f c v w l))
      (λ v. and_some (set v) 2 (λ l. gives_allowed ac links c v w l) ∙ some_same 2 (λ l. set v && gives_allowed ac links c v w l) (λ l. may_give f c v w l) (λ l. given_as v w l))

  pub in_differences : (d : ℕ) → d < 4096 → words new.differences d ≡ some_below 4096 (λ v. some_below 2 (λ l. may_give f c v (plus v d) l))
  in_differences d small =
      from_nothing (words new.differences) (words old.differences) d _ none.differences (all.differences d)
      ∙ some_same 4096 (λ v. set v && (all_words d && some_below 2 (λ l. gives_allowed ac links c v (plus v d) l))) (λ v. some_below 2 (λ l. may_give f c v (plus v d) l))
      (λ v. ap (λ b. set v && (b && some_below 2 (λ l. gives_allowed ac links c v (plus v d) l))) (lt_to d small)
      ∙ and_some (set v) 2 (λ l. gives_allowed ac links c v (plus v d) l) ∙ some_same 2 (λ l. set v && gives_allowed ac links c v (plus v d) l) (λ l. may_give f c v (plus v d) l) (λ l. given_as v (plus v d) l))

  pub in_links : (l : ℕ) → l < 2 → links_of new.links l ≡ links_of_chain f c l
  in_links l small =
      let known : all_links l ≡ true = grind (arith, small) in
      from_nothing (links_of new.links) (links_of old.links) l _ none.links (all.links l)
      ∙ some_same 4096 (λ v. set v && (all_links l && some_below 4096 (λ w. gives_allowed ac links c v w l))) (λ v. some_below 4096 (λ w. may_give f c v w l))
      (λ v. ap (λ b. set v && (b && some_below 4096 (λ w. gives_allowed ac links c v w l))) known
      ∙ and_some (set v) 4096 (λ w. gives_allowed ac links c v w l) ∙ some_same 4096 (λ w. set v && gives_allowed ac links c v w l) (λ w. may_give f c v w l) (λ w. given_as v w l))

-- ---- links that chains allow

-- No number from 2 on is a link.
links_past : (k : Links) (l : ℕ) → 2 ≤ l → links_of k l ≡ false
links_past k l h = rw (ne_eqb l 0 (λ z. omega (arith, h, z)), ne_eqb l 1 (λ z. omega (arith, h, z))) refl

-- A link that is in a set of links is 0 or 1.
pub link_small : (k : Links) (l : ℕ) → links_of k l ≡ true → l < 2
link_small k l e = elim (cases_lt l 2) [ inl lt ↦ lt | inr past ↦ absurd (true_false (sym e ∙ links_past k l past)) ]

-- Links that two sets have in common.
pub met_in_common : (one other : Links) (clear set : Bool) (l : ℕ) → clear ≡ (one.clear && other.clear) → set ≡ (one.set && other.set) →
    links_of (record { clear = clear; set = set }) l ≡ (links_of one l && links_of other l)
met_in_common one other clear set l e f = go (l == 0) (l == 1)
  where
    go : (p q : Bool) → (if p then clear else (if q then set else false)) ≡ ((if p then one.clear else (if q then one.set else false)) && (if p then other.clear else (if q then other.set else false)))
    go true q = e
    go false true = f
    go false false = refl

-- Links that are met with those of a chain.
pub met_with_chain : (old new other : Links) (allowed : Words) (l : ℕ) → links_of new l ≡ (links_of old l && links_of other l) → (l < 2 → links_of other l ≡ allowed l) →
    links_of new l ≡ (links_of old l && allowed l)
met_with_chain old new other allowed l e same = e ∙ elim (cases_lt l 2) [
  | inl lt ↦ ap (λ b. links_of old l && b) (same lt)
  | inr past ↦ ap (λ b. b && links_of other l) (links_past old l past) ∙ sym (ap (λ b. b && allowed l) (links_past old l past))
]

-- One chain more is met.
pub links_on : {A : Type 0} (f : A → Chain) (p : Chain → Bool) (xs : List A) (i : ℕ) (x : A) (now more all : Bool) → i < length xs → x ≡ get_or xs i x → more ≡ (now && p (f x)) →
    (now && list_all p (map f (drop i xs))) ≡ all → (more && list_all p (map f (drop (i + 1) xs))) ≡ all
links_on f p xs i x now more all lt is e before =
    let here : list_all p (map f (drop i xs)) ≡ (p (f x) && list_all p (map f (drop (i + 1) xs))) =
    at_drop_more (λ os. list_all p (map f os)) xs i x lt ∙ ap (λ y. p (f y) && list_all p (map f (drop (i + 1) xs))) (sym is) in
    ap (λ b. b && list_all p (map f (drop (i + 1) xs))) e ∙ three now (p (f x)) (list_all p (map f (drop (i + 1) xs))) ∙ ap (λ b. now && b) (sym here) ∙ before
  where
    three : (p q r : Bool) → ((p && q) && r) ≡ (p && (q && r))
    three true q r = refl
    three false q r = refl

-- All are.
pub links_end : {A : Type 0} (f : A → Chain) (p : Chain → Bool) (xs : List A) (i : ℕ) (now all : Bool) → length xs ≤ i → (now && list_all p (map f (drop i xs))) ≡ all → now ≡ all
links_end f p xs i now all le e = and_true now ∙ ap (λ os. now && list_all p (map f os)) (sym (drop_of_length-le xs {i = i} le)) ∙ e
  where
    and_true : (b : Bool) → b ≡ (b && true)
    and_true true = refl
    and_true false = refl
