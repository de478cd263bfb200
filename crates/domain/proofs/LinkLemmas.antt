-- The links that a chain gives: a word of its cell gives a link, or none of a set does.
use Rattle.std.proofs.Common.{◌≡◌, ℕ, ◌<◌, ◌==◌, Bool, true, false, ◌&&◌, refl, sym, ap, ◌∙◌, subst, arith, inl, inr}
use Rattle.std.proofs.lemmas.Bool.{cases_Bool, cases_eq, eq-eqb, eqb-true, true≢false, and_from, and_left, and_right}
use Rattle.wordset.specs.Words.{plus, Words, some_below}
use Rattle.wordset.proofs.Tests.{some_from, some_to, IsSome, both_ways, and_both, and_first, and_second, some_none_of, some_of_two, or_cases}
use Rattle.wordset.specs.Links.{links_of}
use Rattle.domain.specs.Locations.{Ac, Cell}
use Rattle.domain.specs.Facts.{Fact}
use Rattle.domain.specs.Chains.{Chain, after_steps, is_pair_of, gives}
use Rattle.domain.specs.ChainsInCode.{gives_from}
use Rattle.domain.specs.Narrowing.{may_give, links_of_chain}
use Rattle.domain.specs.Given.{gives_link_from, gives_link}

-- A chain that does not begin with a link gives nothing from it.
pub no_link_from : (ac : Words) (c : Chain) (k v l : ℕ) → c.link k ≡ false → false ≡ gives_link_from ac c k v l
no_link_from ac c k v l lacks = sym (some_none_of 4096 (λ w. ac w && gives_from c k v w l)
    (λ w h. and_right (ac w) (gives_from c k v w l) (and_left (c.link k) (is_pair_of (after_steps c.steps (plus v c.more, k)) w l) lacks)))

-- From a link with which it begins it gives one pair.
pub link_from : (ac : Words) (c : Chain) (k v m a l : ℕ) → c.link k ≡ true → (m, a) ≡ after_steps c.steps (plus v c.more, k) → m < 4096 →
    ((a == l) && ac m) ≡ gives_link_from ac c k v l
link_from ac c k v m a l begins e small = both_ways ((a == l) && ac m) (gives_link_from ac c k v l)
    (λ h. some_from 4096 (λ w. ac w && gives_from c k v w l) m small
    (and_both (ac m) (gives_from c k v m l) (and_second (a == l) (ac m) h)
    (and_both (c.link k) (is_pair_of (after_steps c.steps (plus v c.more, k)) m l) begins
    (sym (ap (λ (p : ℕ × ℕ). is_pair_of p m l) e) ∙ and_both (m == m) (a == l) (eq-eqb m m refl) (and_first (a == l) (ac m) h)))))
    (λ h. let s : IsSome 4096 (λ w. ac w && gives_from c k v w l) = some_to 4096 (λ w. ac w && gives_from c k v w l) h in
    let pair : ((m == s.at) && (a == l)) ≡ true = ap (λ (p : ℕ × ℕ). is_pair_of p s.at l) e
    ∙ and_second (c.link k) (is_pair_of (after_steps c.steps (plus v c.more, k)) s.at l) (and_second (ac s.at) (gives_from c k v s.at l) s.holds) in
    and_both (a == l) (ac m) (and_second (m == s.at) (a == l) pair)
    (ap ac (eqb-true m s.at (and_first (m == s.at) (a == l) pair)) ∙ and_first (ac s.at) (gives_from c k v s.at l) s.holds))

-- What it gives from one link it gives.
pub given_from : (ac : Words) (c : Chain) (k v l : ℕ) → k < 2 → gives_link_from ac c k v l ≡ true → gives_link ac c v l ≡ true
given_from ac c k v l few h =
    let s : IsSome 4096 (λ w. ac w && gives_from c k v w l) = some_to 4096 (λ w. ac w && gives_from c k v w l) h in
    some_from 4096 (λ w. ac w && gives c v w l) s.at s.small
    (and_both (ac s.at) (gives c v s.at l) (and_first (ac s.at) (gives_from c k v s.at l) s.holds)
    (some_from 2 (λ j. gives_from c j v s.at l) k few (and_second (ac s.at) (gives_from c k v s.at l) s.holds)))

-- Where it gives nothing from one link, it gives what it gives from the other.
pub given_from_other : (ac : Words) (c : Chain) (v l : ℕ) → gives_link_from ac c 1 v l ≡ false → gives_link_from ac c 0 v l ≡ gives_link ac c v l
given_from_other ac c v l none = both_ways (gives_link_from ac c 0 v l) (gives_link ac c v l) (λ h. given_from ac c 0 v l (omega (arith)) h)
    (λ h. let s : IsSome 4096 (λ w. ac w && gives c v w l) = some_to 4096 (λ w. ac w && gives c v w l) h in
    let has : ac s.at ≡ true = and_first (ac s.at) (gives c v s.at l) s.holds in
    elim (or_cases (gives_from c 0 v s.at l) (gives_from c 1 v s.at l) (sym (some_of_two (λ k. gives_from c k v s.at l)) ∙ and_second (ac s.at) (gives c v s.at l) s.holds)) [
      | inl e ↦ some_from 4096 (λ w. ac w && gives_from c 0 v w l) s.at s.small (and_both (ac s.at) (gives_from c 0 v s.at l) has e)
      | inr e ↦ absurd (true≢false (sym (some_from 4096 (λ w. ac w && gives_from c 1 v w l) s.at s.small (and_both (ac s.at) (gives_from c 1 v s.at l) has e)) ∙ none))
    ])

-- Some word of a set gives a link, or none does.
pub some_gives : (set t : Words) {w : ℕ} → w < 4096 → set w ≡ true → t w ≡ true → true ≡ some_below 4096 (λ x. set x && t x)
some_gives set t {w} lt is e = sym (some_from 4096 (λ x. set x && t x) w lt (and_from (set w) (t w) is e))

pub none_gives : (set t : Words) → ((a : ℕ) → a < 4096 → set a ≡ true → t a ≡ false) → false ≡ some_below 4096 (λ x. set x && t x)
none_gives set t h = sym (some_none_of 4096 (λ x. set x && t x) (λ v lt. elim (cases_Bool (set v)) [ inl e ↦ and_right _ _ (h v lt e) | inr e ↦ and_left _ _ e ]))

-- The links of a chain are those that the fact has and that some word of its cell gives with an accumulator of the fact.
pub allowed_link : (f : Fact) (c : Chain) (l : ℕ) → (f.link l && some_below 4096 (λ x. f.set (Cell c.cell) x && gives_link (f.set Ac) c x l)) ≡ links_of_chain f c l
allowed_link f c l = both_ways (f.link l && some_below 4096 (λ x. f.set (Cell c.cell) x && gives_link (f.set Ac) c x l)) (links_of_chain f c l) forth back
  where
    forth : (f.link l && some_below 4096 (λ x. f.set (Cell c.cell) x && gives_link (f.set Ac) c x l)) ≡ true → links_of_chain f c l ≡ true
    forth h =
        let s : IsSome 4096 (λ x. f.set (Cell c.cell) x && gives_link (f.set Ac) c x l) = some_to 4096 (λ x. f.set (Cell c.cell) x && gives_link (f.set Ac) c x l)
        (and_second (f.link l) (some_below 4096 (λ x. f.set (Cell c.cell) x && gives_link (f.set Ac) c x l)) h) in
        let t : IsSome 4096 (λ w. f.set Ac w && gives c s.at w l) = some_to 4096 (λ w. f.set Ac w && gives c s.at w l) (and_second (f.set (Cell c.cell) s.at) (gives_link (f.set Ac) c s.at l) s.holds) in
        some_from 4096 (λ v. some_below 4096 (λ w. may_give f c v w l)) s.at s.small
        (some_from 4096 (λ w. may_give f c s.at w l) t.at t.small
        (and_both (f.set (Cell c.cell) s.at) (f.set Ac t.at && (f.link l && gives c s.at t.at l)) (and_first (f.set (Cell c.cell) s.at) (gives_link (f.set Ac) c s.at l) s.holds)
        (and_both (f.set Ac t.at) (f.link l && gives c s.at t.at l) (and_first (f.set Ac t.at) (gives c s.at t.at l) t.holds)
        (and_both (f.link l) (gives c s.at t.at l) (and_first (f.link l) (some_below 4096 (λ x. f.set (Cell c.cell) x && gives_link (f.set Ac) c x l)) h)
        (and_second (f.set Ac t.at) (gives c s.at t.at l) t.holds)))))

    back : links_of_chain f c l ≡ true → (f.link l && some_below 4096 (λ x. f.set (Cell c.cell) x && gives_link (f.set Ac) c x l)) ≡ true
    back h =
        let s : IsSome 4096 (λ v. some_below 4096 (λ w. may_give f c v w l)) = some_to 4096 (λ v. some_below 4096 (λ w. may_give f c v w l)) h in
        let t : IsSome 4096 (λ w. may_give f c s.at w l) = some_to 4096 (λ w. may_give f c s.at w l) s.holds in
        let rest : (f.set Ac t.at && (f.link l && gives c s.at t.at l)) ≡ true = and_second (f.set (Cell c.cell) s.at) (f.set Ac t.at && (f.link l && gives c s.at t.at l)) t.holds in
        let last : (f.link l && gives c s.at t.at l) ≡ true = and_second (f.set Ac t.at) (f.link l && gives c s.at t.at l) rest in
        and_both (f.link l) (some_below 4096 (λ x. f.set (Cell c.cell) x && gives_link (f.set Ac) c x l)) (and_first (f.link l) (gives c s.at t.at l) last)
        (some_from 4096 (λ x. f.set (Cell c.cell) x && gives_link (f.set Ac) c x l) s.at s.small
        (and_both (f.set (Cell c.cell) s.at) (gives_link (f.set Ac) c s.at l) (and_first (f.set (Cell c.cell) s.at) (f.set Ac t.at && (f.link l && gives c s.at t.at l)) t.holds)
        (some_from 4096 (λ w. f.set Ac w && gives c s.at w l) t.at t.small
        (and_both (f.set Ac t.at) (gives c s.at t.at l) (and_first (f.set Ac t.at) (f.link l && gives c s.at t.at l) rest) (and_second (f.link l) (gives c s.at t.at l) last)))))

-- Both links are as they should be.
pub of_two_links : (clear set : Bool) (allowed : Words) → clear ≡ allowed 0 → set ≡ allowed 1 → (l : ℕ) → l < 2 → links_of (record { clear = clear; set = set }) l ≡ allowed l
of_two_links clear set allowed first second l small = elim (cases_eq l 0) [
  | inl e ↦ subst (λ k. links_of (record { clear = clear; set = set }) k ≡ allowed k) (sym e) first
  | inr n ↦ (let last : l ≡ 1 = omega (arith, small, n) in subst (λ k. links_of (record { clear = clear; set = set }) k ≡ allowed k) (sym last) second)
]
