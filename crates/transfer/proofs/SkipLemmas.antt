-- The words of group 2: the words that skip, and what the word makes of them.
use Rattle.std.proofs.Common.{◌≡◌, ℕ, ◌<◌, Bool, true, false, not, ◌&&◌, List, inl, inr, refl, sym, ap, ◌∙◌}
use Rattle.std.specs.Prelude.{if◌then◌else◌}
use Rattle.instruct.specs.Bits.{has_bit}
use Rattle.instruct.specs.Operates.{any_test_holds, skips_of}
use Rattle.wordset.specs.Words.{Words, meet, difference}
use Rattle.std.proofs.lemmas.Bool.{cases_lt}
use Rattle.std.proofs.Math.Path.{fun_ext}
use Rattle.wordset.specs.Lanes.{words}
use Rattle.wordset.proofs.SetLemmas.{words_past}

pub part_passing : (w l v : ℕ) (skip t : Bool) (a p r : Words) → t ≡ (if has_bit 3 w then not skip else skip) → t ≡ true → r ≡ meet a p → p v ≡ any_test_holds w v l →
    r v ≡ (a v && (if skips_of w v l then skip else not skip))
part_passing w l v skip t a p r te is e h =
    ap (λ (x : Words). x v) e ∙ ap (λ b. a v && b) (h ∙ go (has_bit 3 w) (any_test_holds w v l) skip (sym te ∙ is))
  where
    go : (r p s : Bool) → (if r then not s else s) ≡ true → p ≡ (if (if r then not p else p) then s else not s)
    go true true false q = refl
    go true false false q = refl
    go false true true q = refl
    go false false true q = refl
    go _ _ _ q = absurd (cc)

pub part_failing : (w l v : ℕ) (skip t : Bool) (a p r : Words) → t ≡ (if has_bit 3 w then not skip else skip) → t ≡ false → r ≡ difference a p → p v ≡ any_test_holds w v l →
    r v ≡ (a v && (if skips_of w v l then skip else not skip))
part_failing w l v skip t a p r te is e h =
    ap (λ (x : Words). x v) e ∙ ap (λ b. a v && not b) h ∙ ap (λ b. a v && b) (go (has_bit 3 w) (any_test_holds w v l) skip (sym te ∙ is))
  where
    go : (r p s : Bool) → (if r then not s else s) ≡ false → not p ≡ (if (if r then not p else p) then s else not s)
    go true true true q = refl
    go true false true q = refl
    go false true false q = refl
    go false false false q = refl
    go _ _ _ q = absurd (cc)

-- the part of a set that a test leaves, where the test is told of words alone
pub part_is : (part held : List ℕ) (t : ℕ → Bool) → ((v : ℕ) → v < 4096 → words part v ≡ (words held v && t v)) → words part ≡ (λ (v : ℕ). words held v && t v)
part_is part held t h = fun_ext (λ v. elim (cases_lt v 4096) [
  | inl l ↦ h v l
  | inr g ↦ words_past part v g ∙ sym (ap (λ b. b && t v) (words_past held v g))
])
