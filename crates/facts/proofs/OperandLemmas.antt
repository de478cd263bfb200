-- What cells may hold, and the targets of a reference, as code finds them.
use Rattle.std.proofs.Common.{◌≡◌, ℕ, ◌+◌, ◌<◌, true, false, not, ◌&&◌, Some, refl, ap, ◌∙◌, subst}
use Rattle.std.proofs.Math.Path.{fun_ext}
use Rattle.std.proofs.lemmas.Bool.{eq-eqb}
use Rattle.wordset.specs.Words.{Words, only, some_below, shifted}
use Rattle.wordset.proofs.Tests.{both_ways, some_from, IsSome, some_to, and_both, and_first, and_second}
use Rattle.wordset.proofs.Firsts.{IsOnly, only_word}
use Rattle.declaration.specs.Declaration.{Declaration}
use Rattle.domain.specs.Locations.{Cell}
use Rattle.domain.specs.Facts.{Fact, Place}
use Rattle.domain.specs.Narrowing.{words_known}
use Rattle.domain.specs.Moves.{counted}
use Rattle.transfer.specs.References.{own_words, words_in, words_at, is_fixed, are_fixed}
use Rattle.facts.proofs.EachLemmas.{some_has, none_has}

-- the words of the running routine's entry, one offset after the other
pub own_end : (f : Fact) (code sites offsets set : Words) (n : ℕ) → n ≡ 64 → code ≡ sites → sites ≡ f.sites → offsets ≡ f.offsets →
    ((v : ℕ) → set v ≡ some_below n (λ o. offsets o && shifted code (o + 1) v)) → set ≡ own_words f
own_end f code sites offsets set n e q s o h = fun_ext (λ v. h v
    ∙ ap (λ m. some_below m (λ k. offsets k && shifted code (k + 1) v)) e ∙ ap (λ (x : Words). some_below 64 (λ k. offsets k && shifted x (k + 1) v)) (q ∙ s)
    ∙ ap (λ (x : Words). some_below 64 (λ k. x k && shifted f.sites (k + 1) v)) o)

-- the words that the one target may hold
pub words_of_only : (pl : Place) (f : Fact) (p : Words) (y : ℕ) → only p ≡ Some y → words_in pl f y ≡ words_at pl f p
words_of_only pl f p y e = fun_ext (λ v.
    let o : IsOnly p y = only_word p y e in
    both_ways (words_in pl f y v) (words_at pl f p v)
    (λ t. some_from 4096 (λ a. p a && words_in pl f a v) y o.small (and_both _ _ o.within t))
    (λ t. let k : IsSome 4096 (λ a. p a && words_in pl f a v) = some_to 4096 (λ a. p a && words_in pl f a v) t in
    subst (λ a. words_in pl f a v ≡ true) (o.lone k.at k.small (and_first _ _ k.holds)) (and_second _ _ k.holds)))

-- one of the cells is not fixed, or all are
pub one_moves : (d : Declaration) (cells : Words) {a : ℕ} → a < 4096 → cells a ≡ true → is_fixed d a ≡ false → false ≡ are_fixed d cells
one_moves d cells {a} lt is e = ap not (some_has cells (λ y. not (is_fixed d y)) lt is (ap not e))

pub none_moves : (d : Declaration) (cells : Words) → ((a : ℕ) → a < 4096 → cells a ≡ true → is_fixed d a ≡ true) → true ≡ are_fixed d cells
none_moves d cells h = ap not (none_has cells (λ y. not (is_fixed d y)) (λ a lt is. ap not (h a lt is)))

-- the set of a cell that went up
pub counted_here : (pl : Place) (c : ℕ) (f : Fact) → (counted pl c f).set (Cell c) ≡ shifted (words_known pl f (Cell c)) 1
counted_here pl c f = rw (eq-eqb c c refl) refl
