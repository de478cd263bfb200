-- Sets that have a word, and the address after the next.
use Rattle.std.proofs.Common.{◌≡◌, ℕ, ◌+◌, ◌%◌, Bool, true, not, refl, sym, ap, ◌∙◌, arith, lit<}
use Rattle.wordset.specs.Words.{plus, all_words, has_some}
use Rattle.wordset.proofs.Tests.{both_ways, some_from}
use Rattle.std.proofs.lemmas.Bool.{not-false, not-true}

pub has_all : has_some all_words ≡ true
has_all = some_from 4096 all_words 0 (lit< tt) refl

-- what is not empty has something
pub not_empty : {r b : Bool} → r ≡ not b → not r ≡ b
not_empty {r} {b} e = both_ways (not r) b (λ h. not-false b (sym e ∙ not-true r h)) (λ h. ap not (e ∙ ap not h))

pub plus_two : (a n m : ℕ) → n ≡ (a + 1) % 4096 → m ≡ (n + 1) % 4096 → m ≡ plus a 2
plus_two a n m h g = omega arith
