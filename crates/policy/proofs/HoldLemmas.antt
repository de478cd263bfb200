-- Whether all of a list pass a test, item by item.
use Rattle.std.proofs.Common.{◌≡◌, ℕ, ◌+◌, ◌<◌, ◌≤◌, Bool, true, false, ◌&&◌, List, [], ◌∷◌, map, drop, get_or, length, refl, sym, ap, ◌∙◌}
use Rattle.std.specs.List.{list_all}
use Rattle.std.proofs.lemmas.List.{drop_more}
use Rattle.std.proofs.Math.ListN.{drop_of_length-le}

module _ {A B : Type 0} (g : A → B) (p : B → Bool) (xs : List A) (i : ℕ) where
  one_more : (x : A) → i < length xs → x ≡ get_or xs i x → list_all p (map g (drop i xs)) ≡ (p (g x) && list_all p (map g (drop (i + 1) xs)))
  one_more x lt is = ap (λ ys. list_all p (map g ys)) (drop_more xs i x lt ∙ ap (λ y. y ∷ drop (i + 1) xs) (sym is))

  alone : (b c : Bool) → b ≡ (c && true) → c ≡ b
  alone b true is = sym is
  alone b false is = sym is

  pub all_more : (x : A) (b : Bool) → i < length xs → x ≡ get_or xs i x → b ≡ list_all p (g x ∷ []) → b ≡ true →
      list_all p (map g (drop i xs)) ≡ list_all p (map g xs) → list_all p (map g (drop (i + 1) xs)) ≡ list_all p (map g xs)
  all_more x b lt is told on h =
      sym (ap (λ c. c && list_all p (map g (drop (i + 1) xs))) (alone b (p (g x)) told ∙ on)) ∙ (sym (one_more x lt is) ∙ h)

  pub all_fails : (x : A) (b : Bool) → i < length xs → x ≡ get_or xs i x → b ≡ list_all p (g x ∷ []) → b ≡ false →
      list_all p (map g (drop i xs)) ≡ list_all p (map g xs) → false ≡ list_all p (map g xs)
  all_fails x b lt is told off h =
      sym (ap (λ c. c && list_all p (map g (drop (i + 1) xs))) (alone b (p (g x)) told ∙ off)) ∙ (sym (one_more x lt is) ∙ h)

  pub all_done : length xs ≤ i → list_all p (map g (drop i xs)) ≡ list_all p (map g xs) → true ≡ list_all p (map g xs)
  all_done past h = sym (ap (λ ys. list_all p (map g ys)) (drop_of_length-le xs past)) ∙ h
