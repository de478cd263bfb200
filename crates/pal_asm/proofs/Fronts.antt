-- Lines, words and symbols taken one by one.
use Rattle.std.proofs.Common.{◌≡◌, ◌∙◌, sym, ap, ℕ, ◌+◌, ◌-◌, ◌<◌, ◌≤◌, List, [], ◌∷◌, ◌++◌, arith, length, get_or, take, drop, append_assoc, Some, true}
use Rattle.std.specs.Prelude.{codes, slice_get}
use Rattle.std.proofs.lemmas.Bool.{cond-true}
use Rattle.std.proofs.lemmas.List.{take_all, drop_more}
use Rattle.std.proofs.lemmas.Option.{slice_get_within, slice_get-get_or}
use Rattle.pal_text.specs.declared.names.Name.{Name}
use Rattle.pal_acts.specs.declared.act.SourcePlace.{SourcePlace}
use Rattle.pal_acts.specs.declared.act.PlacedWord.{PlacedWord}
use Rattle.pal_asm.specs.Listings.{is_at, words_text, word_text, symbols_text, symbol_text}
use Rattle.pal_asm.specs.SourceInCode.{next_at, after_those}

some_is : {X : Type 0} (x y : X) → Some x ≡ Some y → x ≡ y
some_is x y e = cc

-- a word taken off the front
module _ (p : SourcePlace) where
  pub word_off : (xs : List PlacedWord) (d : PlacedWord) → 1 ≤ length xs → is_at p (get_or xs 0 d) ≡ true
      → (after_those p (take (length xs - 1) (drop 1 xs)) ≡ after_those p xs) × (next_at p xs ≡ get_or xs 0 d ∷ next_at p (take (length xs - 1) (drop 1 xs)))
  word_off [] d h is = absurd (omega arith)
  word_off (x ∷ xs) d h is =
      let all : take (length (x ∷ xs) - 1) xs ≡ xs = take_all (length (x ∷ xs) - 1) xs (omega arith) in
      (ap (after_those p) all ∙ sym (cond-true (is_at p x) (after_those p xs) (x ∷ xs) is), cond-true (is_at p x) (x ∷ next_at p xs) [] is ∙ ap (λ l. x ∷ next_at p l) (sym all))

  pub words_on : (xs : List PlacedWord) (d : PlacedWord) (text with_word new : List ℕ) → 1 ≤ length xs → d ≡ get_or xs 0 d → is_at p d ≡ true
      → with_word ≡ text ++ word_text d → new ≡ with_word ++ codes "\n"
      → (after_those p (take (length xs - 1) (drop 1 xs)) ≡ after_those p xs) × (new ++ words_text (next_at p (take (length xs - 1) (drop 1 xs))) ≡ text ++ words_text (next_at p xs))
  words_on xs d text with_word new h is on e f =
      let rest : List PlacedWord = next_at p (take (length xs - 1) (drop 1 xs)) in
      let off = word_off xs d h (ap (is_at p) (sym is) ∙ on) in (
        off.0,
        ap (λ l. l ++ words_text rest) (f ∙ ap (λ l. l ++ codes "\n") e ∙ append_assoc text (word_text d) (codes "\n")) ∙ append_assoc text (word_text d ++ codes "\n") (words_text rest)
            ∙ ap (λ w. text ++ (word_text w ++ codes "\n" ++ words_text rest)) is ∙ ap (λ l. text ++ words_text l) (sym off.1),
      )

-- a symbol taken off the front
symbol_front : (ss : List (Name × ℕ)) (x : Name × ℕ) (n : Name) (v : ℕ) → x ≡ (n, v) → symbols_text (x ∷ ss) ≡ symbol_text n v ++ symbols_text ss
symbol_front ss x n v e = ap (λ y. symbols_text (y ∷ ss)) e

pub symbol_off : (entries : List (Name × ℕ)) (i : ℕ) (n : Name) (v : ℕ) → slice_get entries i ≡ Some (n, v) → symbols_text (drop i entries) ≡ symbol_text n v ++ symbols_text (drop (i + 1) entries)
symbol_off entries i n v h =
    let below : i < length entries = slice_get_within entries i (n, v) h in
    let found : Some (get_or entries i (n, v)) ≡ Some (n, v) = sym (slice_get-get_or entries i (n, v) below) ∙ h in
    ap symbols_text (drop_more entries i (n, v) below) ∙ symbol_front (drop (i + 1) entries) (get_or entries i (n, v)) n v (some_is (get_or entries i (n, v)) (n, v) found)
