-- One word after another.
use Rattle.std.proofs.Common.{◌≡◌, ◌≢◌, ◌∙◌, sym, ap, refl, subst, ℕ, ◌+◌, ◌<◌, List, [], ◌∷◌, ◌++◌, append-nil, length, take, drop, slice_get, Option, Some, None, Result, Ok, Err}
use Rattle.std.specs.Prelude.{reverse}
use Rattle.std.proofs.lemmas.List.{reverse-append}
use Rattle.pal_acts.specs.declared.act.PlacedWord.{PlacedWord}
use Rattle.pal_acts.specs.Acts.{PlacedAct}
use Rattle.pal_acts.specs.Values.{Values}
use Rattle.pal_acts.specs.Meaning.{location_after, location}
use Rattle.pal_acts.specs.Sources.{Encodes, with_word, words}
use Rattle.pal_acts.specs.declared.assembly.ActsFault.{ActsFault}
use Rattle.pal_acts.specs.declared.assembly.ActsFault.TheVariants.{Fault, NoMemory}
use Rattle.pal_acts.specs.declared.fault_code.FaultCode.{FaultCode}
use Rattle.pal_acts.specs.Words.{word_of}
use Rattle.pal_acts.specs.Steps.{Codes, BreaksBy, FindsBy}
use Rattle.pal_acts.proofs.Places.{split_at}

-- words, and one more
abbrev pub with_found : Option PlacedWord → List PlacedWord → List PlacedWord
with_found None before = before
with_found (Some w) before = w ∷ before

module _ (σ : Values) (here : ℕ) (next : PlacedAct) (before : List PlacedAct) (at : here ≡ location σ before) where
  abbrev found_at : ℕ → Option (Result ℕ FaultCode)
  found_at l = word_of σ l next.terms next.act

  -- the words with that of one act more
  pub words_are : (found : Option PlacedWord) → Codes σ here next found → words σ (next ∷ before) ≡ with_found found (words σ before)
  words_are None h = ap (λ l. with_word next.place l (found_at l) (words σ before)) (sym at) ∙ ap (λ o. with_word next.place here o (words σ before)) h
  words_are (Some w) h =
      ap (λ l. with_word next.place l (found_at l) (words σ before)) (sym at) ∙ ap (λ o. with_word next.place here o (words σ before)) h.2
      ∙ (λ i. record { place = sym h.0 i; at = sym h.1 i; word = w.word } ∷ words σ before)

  -- an act with a word, or without one, has no fault
  fine : (o : Option (Result ℕ FaultCode)) (found : Option PlacedWord) (code : FaultCode) → Codes σ here next found → found_at here ≡ o → o ≡ Some (Err code) → ⊥
  fine o None code h e f = let both : None ≡ Some (Err code) = sym h ∙ e ∙ f in cc
  fine o (Some w) code h e f = let both : Some (Ok w.word) ≡ Some (Err code) = sym h.2 ∙ e ∙ f in cc

  pub encodes_more : (found : Option PlacedWord) → Codes σ here next found → Encodes σ before → Encodes σ (next ∷ before)
  encodes_more found h k = (subst (λ l. (code : FaultCode) → found_at l ≢ Some (Err code)) at (λ code e. fine (found_at here) found code h refl e), k)

  pub moves_on : (here' : ℕ) → here' ≡ location_after σ here next.terms next.act → here' ≡ location σ (next ∷ before)
  moves_on here' h = h ∙ ap (λ l. location_after σ l next.terms next.act) at

  -- and in order
  pub kept_are : (found : Option PlacedWord) → Codes σ here next found → (kept : List PlacedWord) → kept ≡ reverse (words σ before)
      → reverse (words σ (next ∷ before)) ≡ kept ++ reverse (with_found found [])
  kept_are found h kept is = ap reverse (words_are found h) ∙ by found ∙ ap (λ l. l ++ reverse (with_found found [])) (sym is)
    where
      by : (o : Option PlacedWord) → reverse (with_found o (words σ before)) ≡ reverse (words σ before) ++ reverse (with_found o [])
      by None = sym (append-nil (reverse (words σ before)))
      by (Some w) = reverse-append (w ∷ []) (words σ before)

-- an act that is not kept is the first fault of a word, or memory was refused
pub stops_keeping : (σ : Values) (acts : List PlacedAct) (at : ℕ) (next : PlacedAct) (here : ℕ) → at < length acts → slice_get acts at ≡ Some next → here ≡ location σ (reverse (take at acts))
    → Encodes σ (reverse (take at acts)) → (r : ActsFault) → BreaksBy σ here next r → FindsBy σ acts r
stops_keeping σ acts at next here within stands is fine (Fault place code) h = record {
  earlier = reverse (take at acts);
  next = next;
  later = drop (at + 1) acts;
  parts = split_at acts at next within stands;
  such = (h.0, fine, subst (λ l. word_of σ l next.terms next.act ≡ Some (Err code)) is h.1);
}
stops_keeping σ acts at next here within stands is fine NoMemory h = tt
