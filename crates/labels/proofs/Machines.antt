-- The machine that the lines of a declaration name.
use Rattle.std.proofs.Common.{◌≡◌, List, [], ◌∷◌, ℕ, Bool, true, false, ◌||◌, if◌then◌else◌, sym, ap, subst}
use Rattle.std.specs.List.{list_any}
use Rattle.instruct.specs.declared.Profile.TheVariants.{Pdp8I, Pdp8E}
use Rattle.labels.specs.Within.{names_8e, machine}

-- a line that passes a test is looked for among lines that are left
module _ (test : List ℕ → Bool) (left more : List (List ℕ)) (line : List ℕ) (all : Bool) (is : left ≡ line ∷ more) (so_far : list_any test left ≡ all) where
  first_or_more : (test line || list_any test more) ≡ all
  first_or_more = subst (λ (lines : List (List ℕ)). list_any test lines ≡ all) is so_far

  pub not_first : test line ≡ false → list_any test more ≡ all
  not_first e = subst (λ (b : Bool). (b || list_any test more) ≡ all) e first_or_more

  pub first : test line ≡ true → all ≡ true
  first e = sym (subst (λ (b : Bool). (b || list_any test more) ≡ all) e first_or_more)

pub none_left : (test : List ℕ → Bool) (left : List (List ℕ)) (all : Bool) → left ≡ [] → list_any test left ≡ all → all ≡ false
none_left test left all is so_far = sym (subst (λ (lines : List (List ℕ)). list_any test lines ≡ all) is so_far)

-- the machine by that answer
pub named : (text : List ℕ) → names_8e text ≡ true → Pdp8E ≡ machine text
named text e = ap (λ (b : Bool). if b then Pdp8E else Pdp8I) (sym e)

pub unnamed : (text : List ℕ) → names_8e text ≡ false → Pdp8I ≡ machine text
unnamed text e = ap (λ (b : Bool). if b then Pdp8E else Pdp8I) (sym e)
