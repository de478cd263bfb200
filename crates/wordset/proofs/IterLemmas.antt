-- Going through a set by its iterator: what loops keep.
use Rattle.std.proofs.Common.{◌≡◌, ℕ, ◌<◌, ◌≤◌, Bool, true, false, List, ◌&&◌, ◌||◌, refl, sym, ◌∙◌, ap, subst, inl, inr, arith}
use Rattle.std.specs.Prelude.{Some, IsTrue, ◌↔◌}
use Rattle.std.proofs.lemmas.Bool.{cases_lt, cases_eq, true≢false, false≢true}
use Rattle.wordset.specs.Words.{Words, some_below, IsFirstFrom, HasNoneFrom}
use Rattle.wordset.specs.Lanes.{words}
use Rattle.wordset.specs.Iterating.{GoesFrom, GivesFirst}
use Rattle.wordset.specs.declared.iter.Iter.{Iter}
use Rattle.wordset.proofs.Tests.{some_none, some_next, some_last}
use Rattle.wordset.proofs.LaneBits.{or_false}
use Rattle.wordset.proofs.Pairs.{or_assoc}

-- ---- each word passes

-- Each word of the set that the iterator has given passes.
pub record Passed (p : ℕ → Type 0) (set : Words) (it : Iter) : Type 0 where
  pub same : words it.set.now ≡ set
  pub passed : (w : ℕ) → w < it.next → set w ≡ true → p w

pub none_yet : {p : ℕ → Type 0} {lanes : List ℕ} {made it : Iter} → GoesFrom lanes 0 made → it ≡ made → Passed p (words lanes) it
none_yet {made = made} begins is = record { same = ap (λ (i : Iter). words i.set.now) is ∙ ap (λ l. words l) begins.set; passed = λ w h has. absurd (omega (arith, h, ap (λ (i : Iter). i.next) is, begins.next)) }

pub of_set : {p : ℕ → Type 0} {lanes : List ℕ} {made begun it : Iter} → GoesFrom lanes 0 made → begun ≡ made → Passed p (words begun.set.now) it → Passed p (words lanes) it
of_set {p} {it = it} begins is passed = subst (λ s. Passed p s it) (ap (λ (i : Iter). words i.set.now) is ∙ ap (λ l. words l) begins.set) passed

-- The next word passes.
pub one_more : {p : ℕ → Type 0} {set : Words} {it after : Iter} {w : ℕ} → Passed p set it → GivesFirst it (Some w) after → p w → Passed p set after
one_more {p} {set} {it} {after} {w} before gives passes = record {
  same = ap (λ l. words l) gives.1.set ∙ before.same;
  passed = λ a h is. elim (cases_lt a it.next) [
    | inl l ↦ before.passed a l is
    | inr g ↦ elim (cases_eq a w) [
      | inl e ↦ subst p (sym e) passes
      | inr n ↦ (let less : a < w = omega (arith, gives.1.next) in absurd (true≢false (sym is ∙ sym (ap (λ s. s a) before.same) ∙ gives.0.before a g less)))
    ]
  ];
}

-- The next word is one of the set.
pub given_word : {p : ℕ → Type 0} {set : Words} {it after : Iter} {w : ℕ} → Passed p set it → GivesFirst it (Some w) after → set w ≡ true
given_word {w = w} before gives = sym (ap (λ s. s w) before.same) ∙ gives.0.within

-- The next word fails.
pub one_fails : {p : ℕ → Type 0} {set : Words} {it after : Iter} {w : ℕ} (t : Bool) → Passed p set it → GivesFirst it (Some w) after → t ≡ false → (p w → IsTrue t) → IsTrue false ↔ ((a : ℕ) → a < 4096 → set a ≡ true → p a)
one_fails {w = w} t before gives fails told = (
  λ q. absurd (false≢true q),
  λ each. absurd (true≢false (sym (told (each w gives.0.small (given_word before gives))) ∙ fails)),
)

-- No word is left.
pub all_pass : {p : ℕ → Type 0} {set : Words} {it : Iter} → Passed p set it → HasNoneFrom it.next (words it.set.now) → (a : ℕ) → a < 4096 → set a ≡ true → p a
all_pass {it = it} before none a lt is = elim (cases_lt a it.next) [
  | inl l ↦ before.passed a l is
  | inr g ↦ absurd (true≢false (sym is ∙ sym (ap (λ s. s a) before.same) ∙ none a g lt))
]

-- ---- images of the words are put together

-- A set has what it had at the start and the images of those words of another set that the iterator has given.
pub record Gathered (image : ℕ → Words) (set start found : Words) (it : Iter) : Type 0 where
  pub same : words it.set.now ≡ set
  pub inside : it.next ≤ 4096
  pub so_far : (v : ℕ) → found v ≡ (start v || some_below it.next (λ x. set x && image x v))

pub none_gathered : {image : ℕ → Words} {start found : Words} {lanes : List ℕ} {made it : Iter} → GoesFrom lanes 0 made → it ≡ made → ((v : ℕ) → found v ≡ start v)
    → Gathered image (words lanes) start found it
none_gathered {image} {start} {found} {lanes} {made} {it} begins is same =
    let next : it.next ≡ 0 = ap (λ (i : Iter). i.next) is ∙ begins.next in
    record {
      same = ap (λ (i : Iter). words i.set.now) is ∙ ap (λ l. words l) begins.set;
      inside = omega (arith, next);
      so_far = λ v. same v ∙ sym (ap (λ n. start v || some_below n (λ x. words lanes x && image x v)) next ∙ ap (λ p. start v || p) (some_none (λ x. words lanes x && image x v)) ∙ or_false (start v));
    }

pub image_gathered : {image : ℕ → Words} {set start found more : Words} {it after : Iter} {w : ℕ} → Gathered image set start found it → GivesFirst it (Some w) after
    → ((v : ℕ) → more v ≡ (found v || image w v)) → Gathered image set start more after
image_gathered {image} {set} {start} {found} {more} {it} {after} {w} before gives put =
    let first : IsFirstFrom it.next set w = subst (λ s. IsFirstFrom it.next s w) before.same gives.0 in
    record {
      same = ap (λ l. words l) gives.1.set ∙ before.same;
      inside = omega (arith, gives.1.next, gives.0.small);
      so_far = λ v. put v ∙ ap (λ p. p || image w v) (before.so_far v) ∙ or_assoc (start v) (some_below it.next (λ x. set x && image x v)) (image w v)
          ∙ ap (λ p. start v || p) (some_next it.next w set (λ x. image x v) _ _ first refl refl)
          ∙ ap (λ n. start v || some_below n (λ x. set x && image x v)) (sym gives.1.next);
    }

pub all_gathered : {image : ℕ → Words} {set start found : Words} {it : Iter} → Gathered image set start found it → HasNoneFrom it.next (words it.set.now)
    → (v : ℕ) → found v ≡ (start v || some_below 4096 (λ x. set x && image x v))
all_gathered {image} {set} {start} {found} {it} before none v =
    let left : HasNoneFrom it.next set = subst (λ s. HasNoneFrom it.next s) before.same none in
    before.so_far v ∙ ap (λ p. start v || p) (some_last it.next set (λ x. image x v) _ before.inside left refl)
