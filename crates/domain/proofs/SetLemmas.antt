-- Products and preimages of sets.
use Rattle.std.proofs.Common.{◌≡◌, ℕ, ◌-◌, ◌*◌, ◌%◌, ◌<◌, ◌≤◌, ◌==◌, Bool, true, false, ◌&&◌, ◌||◌, List, refl, sym, ap, ◌∙◌, arith, inl, inr}
use Rattle.std.specs.Prelude.{Option, Some}
use Rattle.std.proofs.Math.Path.{fun_ext}
use Rattle.std.proofs.lemmas.Bool.{cases_lt, eq-eqb, eqb-true, ne_eqb}
use Rattle.wordset.specs.Words.{Words, all_words, some_below, meet, minus, shifted, mirrored}
use Rattle.wordset.specs.Lanes.{words}
use Rattle.wordset.proofs.Tests.{some_from, some_to, IsSome, some_none_of, both_ways, and_both, and_first, and_second}
use Rattle.wordset.proofs.SetLemmas.{lt_to, words_past, closed_at, closed_past}
use Rattle.domain.specs.Locations.{tape_word}
use Rattle.domain.specs.Adding.{times}

-- The words that are kept of a set, one by one.
pub kept_one : (set : Words) (test : ℕ → Bool) (v : ℕ) → v < 4096 → some_below 4096 (λ x. set x && ((v == x) && test x)) ≡ (set v && test v)
kept_one set test v h = both_ways (some_below 4096 (λ x. set x && ((v == x) && test x))) (set v && test v) to from
  where
    to : some_below 4096 (λ x. set x && ((v == x) && test x)) ≡ true → (set v && test v) ≡ true
    to e =
        let s : IsSome 4096 (λ x. set x && ((v == x) && test x)) = some_to 4096 (λ x. set x && ((v == x) && test x)) e in
        let has : set s.at ≡ true = and_first (set s.at) ((v == s.at) && test s.at) s.holds in
        let rest : ((v == s.at) && test s.at) ≡ true = and_second (set s.at) ((v == s.at) && test s.at) s.holds in
        let same : v ≡ s.at = eqb-true v s.at (and_first (v == s.at) (test s.at) rest) in
        let passes : test s.at ≡ true = and_second (v == s.at) (test s.at) rest in
        and_both (set v) (test v) (ap set same ∙ has) (ap test same ∙ passes)

    from : (set v && test v) ≡ true → some_below 4096 (λ x. set x && ((v == x) && test x)) ≡ true
    from e = some_from 4096 (λ x. set x && ((v == x) && test x)) v h
        (and_both (set v) ((v == v) && test v) (and_first (set v) (test v) e) (and_both (v == v) (test v) (eq-eqb v v refl) (and_second (set v) (test v) e)))

-- Past the words nothing is kept.
pub kept_past : (set : Words) (test : ℕ → Bool) (v : ℕ) → 4096 ≤ v → some_below 4096 (λ x. set x && ((v == x) && test x)) ≡ false
kept_past set test v g = some_none_of 4096 (λ x. set x && ((v == x) && test x)) (λ x h. none x h (ne_eqb v x (λ e. omega (arith, e))))
  where
    none : (x : ℕ) → x < 4096 → (v == x) ≡ false → (set x && ((v == x) && test x)) ≡ false
    none x h e = go (set x) (v == x) e
      where
        go : (a b : Bool) → b ≡ false → (a && (b && test x)) ≡ false
        go true b q = ap (λ p. p && test x) q
        go false b q = refl

past_and : (lanes : List ℕ) (b : Bool) (v : ℕ) → 4096 ≤ v → (words lanes v && b) ≡ false
past_and lanes b v g = ap (λ p. p && b) (words_past lanes v g)

pub kept_all : (lanes found : List ℕ) (test : ℕ → Bool) → ((v : ℕ) → words found v ≡ (false || some_below 4096 (λ x. words lanes x && ((v == x) && test x)))) →
    words found ≡ meet (words lanes) test
kept_all lanes found test each = fun_ext (λ v. each v ∙ elim (cases_lt v 4096) [
  | inl l ↦ kept_one (words lanes) test v l
  | inr g ↦ kept_past (words lanes) test v g ∙ sym (past_and lanes (test v) v g)
])

-- One times a word is the word.
same_once : (v x : ℕ) → x < 4096 → (v == (1 * x) % 4096) ≡ (v == x)
same_once v x h = ap (λ y. v == y) (let e : (1 * x) % 4096 ≡ x = omega arith in e)

pub one_time : (a : Words) → ((v : ℕ) → 4096 ≤ v → a v ≡ false) → times 1 a ≡ a
one_time a past = fun_ext at
  where
    at : (v : ℕ) → times 1 a v ≡ a v
    at v = both_ways (times 1 a v) (a v)
        (λ e. let s : IsSome 4096 (λ x. a x && (v == (1 * x) % 4096)) = some_to 4096 (λ x. a x && (v == (1 * x) % 4096)) e in
        let same : v ≡ (1 * s.at) % 4096 = eqb-true v ((1 * s.at) % 4096) (and_second (a s.at) (v == (1 * s.at) % 4096) s.holds) in
        let small : s.at < 4096 = s.small in
        let is : v ≡ s.at = omega arith in
        ap a is ∙ and_first (a s.at) (v == (1 * s.at) % 4096) s.holds)
        (λ e. elim (cases_lt v 4096) [
          | inl l ↦ some_from 4096 (λ x. a x && (v == (1 * x) % 4096)) v l (and_both (a v) (v == (1 * v) % 4096) e (eq-eqb v ((1 * v) % 4096) (omega arith)))
          | inr g ↦ absurd (let clash : true ≡ false = sym e ∙ past v g in let z : ⊥ = cc in z)
        ])

pub once : (lanes : List ℕ) → words lanes ≡ times 1 (words lanes)
once lanes = sym (one_time (words lanes) (words_past lanes))

-- The negative of a word is one more than its complement.
pub negative : (lanes : List ℕ) → shifted (mirrored (words lanes)) 1 ≡ times 4095 (words lanes)
negative lanes = fun_ext at
  where
    set : Words
    set = words lanes

    at : (v : ℕ) → shifted (mirrored (words lanes)) 1 v ≡ times 4095 (words lanes) v
    at v = elim (cases_lt v 4096) [
      | inl l ↦
          (let u : ℕ = minus v 1 in
          let small : minus v 1 < 4096 = omega arith in
          closed_at (λ w. mirrored (words lanes) (minus w 1)) v l ∙ closed_at (λ w. words lanes (4095 - w)) (minus v 1) small ∙
          both_ways (words lanes (4095 - minus v 1)) (times 4095 (words lanes) v)
          (λ e. some_from 4096 (λ x. words lanes x && (v == (4095 * x) % 4096)) (4095 - minus v 1) (omega arith)
          (and_both (words lanes (4095 - minus v 1)) (v == (4095 * (4095 - minus v 1)) % 4096) e (eq-eqb v ((4095 * (4095 - minus v 1)) % 4096) (omega arith))))
          (λ e. let s : IsSome 4096 (λ x. words lanes x && (v == (4095 * x) % 4096)) = some_to 4096 (λ x. words lanes x && (v == (4095 * x) % 4096)) e in
          let same : v ≡ (4095 * s.at) % 4096 = eqb-true v ((4095 * s.at) % 4096) (and_second (words lanes s.at) (v == (4095 * s.at) % 4096) s.holds) in
          let low : s.at < 4096 = s.small in
          let is : 4095 - minus v 1 ≡ s.at = omega arith in
          ap (λ w. words lanes w) is ∙ and_first (words lanes s.at) (v == (4095 * s.at) % 4096) s.holds))
      | inr g ↦ closed_past (λ w. mirrored (words lanes) (minus w 1)) v g ∙ sym (some_none_of 4096 (λ x. words lanes x && (v == (4095 * x) % 4096)) (λ x h. none x (ne_eqb v ((4095 * x) % 4096) (λ e. omega (arith, e)))))
    ]
      where
        none : (x : ℕ) → (v == (4095 * x) % 4096) ≡ false → (words lanes x && (v == (4095 * x) % 4096)) ≡ false
        none x e = go (words lanes x) (v == (4095 * x) % 4096) e
          where
            go : (a b : Bool) → b ≡ false → (a && b) ≡ false
            go true b q = q
            go false b q = refl

meet_same : (lanes : List ℕ) (a b : Words) → ((v : ℕ) → v < 4096 → a v ≡ b v) → meet (words lanes) a ≡ meet (words lanes) b
meet_same lanes a b same = fun_ext (λ v. elim (cases_lt v 4096) [
  | inl l ↦ ap (λ p. words lanes v && p) (same v l)
  | inr g ↦ past_and lanes (a v) v g ∙ sym (past_and lanes (b v) v g)
])

pub divided_once : (lanes : List ℕ) (set : Words) → meet (words lanes) set ≡ meet (words lanes) (λ v. set ((1 * v) % 4096))
divided_once lanes set = meet_same lanes set (λ v. set ((1 * v) % 4096)) (λ v h. ap set (let e : v ≡ (1 * v) % 4096 = omega arith in e))

negative_at : (set : Words) (v : ℕ) → v < 4096 → times 4095 set v ≡ set ((4095 * v) % 4096)
negative_at set v h = both_ways (times 4095 set v) (set ((4095 * v) % 4096))
    (λ e. let s : IsSome 4096 (λ x. set x && (v == (4095 * x) % 4096)) = some_to 4096 (λ x. set x && (v == (4095 * x) % 4096)) e in
    let same : v ≡ (4095 * s.at) % 4096 = eqb-true v ((4095 * s.at) % 4096) (and_second (set s.at) (v == (4095 * s.at) % 4096) s.holds) in
    let low : s.at < 4096 = s.small in
    let is : (4095 * v) % 4096 ≡ s.at = omega arith in
    ap set is ∙ and_first (set s.at) (v == (4095 * s.at) % 4096) s.holds)
    (λ e. some_from 4096 (λ x. set x && (v == (4095 * x) % 4096)) ((4095 * v) % 4096) (omega arith)
    (and_both (set ((4095 * v) % 4096)) (v == (4095 * ((4095 * v) % 4096)) % 4096) e (eq-eqb v ((4095 * ((4095 * v) % 4096)) % 4096) (omega arith))))

pub divided_negative : (lanes : List ℕ) (set : Words) → meet (words lanes) (times 4095 set) ≡ meet (words lanes) (λ v. set ((4095 * v) % 4096))
divided_negative lanes set = meet_same lanes (times 4095 set) (λ v. set ((4095 * v) % 4096)) (negative_at set)

-- ---- steps of loops

pub and_yes : (b t : Bool) → t ≡ true → b ≡ (b && t)
and_yes true t e = sym e
and_yes false t e = refl

pub or_none : (a b t : Bool) → t ≡ false → a ≡ (a || (b && t))
or_none true b t e = refl
or_none false true t e = sym e
or_none false false t e = refl

-- ---- words of the tape

lone : (w v : ℕ) (test : ℕ → Bool) → w < 4096 → test w ≡ some_below 4096 (λ x. (x == w) && test x)
lone w v test h = both_ways (test w) (some_below 4096 (λ x. (x == w) && test x))
    (λ e. some_from 4096 (λ x. (x == w) && test x) w h (and_both (w == w) (test w) (eq-eqb w w refl) e))
    (λ e. let s : IsSome 4096 (λ x. (x == w) && test x) = some_to 4096 (λ x. (x == w) && test x) e in
    ap test (sym (eqb-true s.at w (and_first (s.at == w) (test s.at) s.holds))) ∙ and_second (s.at == w) (test s.at) s.holds)

pub tape_one : (o : Option ℕ) (w : ℕ) (test : ℕ → Bool) → Some w ≡ o → w < 4096 → test w ≡ some_below 4096 (λ x. tape_word o x && test x)
tape_one o w test e h = lone w w test h ∙ ap (λ (p : Option ℕ). some_below 4096 (λ x. tape_word p x && test x)) e

or_all : (b t : Bool) → t ≡ true → t ≡ (b || t)
or_all true t e = e
or_all false t e = refl

pub all_or : (lanes : List ℕ) (v : ℕ) → all_words v ≡ (words lanes v || all_words v)
all_or lanes v = elim (cases_lt v 4096) [
  | inl l ↦ or_all (words lanes v) (all_words v) (lt_to v l)
  | inr g ↦ ap (λ b. b || all_words v) (sym (words_past lanes v g))
]
