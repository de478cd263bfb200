-- What was kept and found of acts is what they mean, or their refusal.
use Rattle.std.proofs.Common.{◌≡◌, ◌∙◌, sym, ap, subst, ℕ, ◌+◌, ◌<◌, ◌≤◌, List, ◌∷◌, Option, Some, inl, inr, length, take, drop, get_or}
use Rattle.std.specs.Prelude.{reverse}
use Rattle.std.specs.Option.{option_and_then}
use Rattle.std.proofs.lemmas.List.{reverse-reverse, take_all, drop_more, drop_all}
use Rattle.pal_text.specs.declared.names.Name.{Name}
use Rattle.pal_acts.specs.declared.act.SignedTerm.{SignedTerm}
use Rattle.pal_acts.specs.declared.act.PlacedWord.{PlacedWord}
use Rattle.pal_acts.specs.declared.assembly.ActsFault.{ActsFault}
use Rattle.pal_acts.specs.declared.assembly.ActsFault.TheVariants.{Fault, NoMemory}
use Rattle.pal_acts.specs.Acts.{PlacedAct}
use Rattle.pal_acts.specs.Values.{Values, known, term_value, joined, value_after}
use Rattle.pal_acts.specs.Meaning.{Defines}
use Rattle.pal_acts.specs.Sources.{Encodes, words, all_words, IsImage, IsSource}
use Rattle.pal_acts.specs.Faults.{Refuses}
use Rattle.pal_acts.specs.Steps.{StopsBy, FindsBy}

-- all acts were looked at
pub all_encoded : (σ : Values) (acts : List PlacedAct) (at : ℕ) → length acts ≤ at → Encodes σ (reverse (take at acts)) → Encodes σ (reverse acts)
all_encoded σ acts at h e = subst (λ l. Encodes σ (reverse l)) (take_all at acts h) e

pub all_kept : (σ : Values) (acts : List PlacedAct) (at : ℕ) (kept : List PlacedWord) → length acts ≤ at → kept ≡ reverse (words σ (reverse (take at acts))) → kept ≡ all_words σ acts
all_kept σ acts at kept h e = e ∙ ap (λ l. reverse (words σ (reverse l))) (take_all at acts h)

module _ (perm here own : List (Name × ℕ)) (acts : List PlacedAct) (same : here ≡ perm) (defines : Defines perm 1024 (reverse acts) own) where
  pub source_of : (found read : List PlacedWord) (image : List (Option ℕ)) → Encodes (known here own) (reverse acts) → found ≡ all_words (known here own) acts → read ≡ found → IsImage (reverse read) image → IsSource perm 1024 acts own image
  source_of found read image encodes is e made =
      let back : reverse read ≡ words (known here own) (reverse acts) = ap reverse (e ∙ is) ∙ reverse-reverse (words (known here own) (reverse acts)) in
      let P : List (Name × ℕ) → Type 0 = λ p. Encodes (known p own) (reverse acts) in
      let Q : List PlacedWord → Type 0 = λ l. IsImage l image in
      let R : List (Name × ℕ) → Type 0 = λ p. IsImage (words (known p own) (reverse acts)) image in
      record { defines = defines; encodes = subst P same encodes; image_is = subst R same (subst Q back made) }

  pub words_refused : (e : ActsFault) → FindsBy (known here own) acts e → Refuses perm 1024 acts e
  words_refused (Fault place code) h = inr (own, defines, subst (λ p. FindsBy (known p own) acts (Fault place code)) same h)
  words_refused NoMemory h = tt

pub symbols_refused : (perm : List (Name × ℕ)) (acts : List PlacedAct) (e : ActsFault) → StopsBy perm 1024 acts e → Refuses perm 1024 acts e
symbols_refused perm acts (Fault place code) h = inl h
symbols_refused perm acts NoMemory h = tt

-- the value of an expression, one term after another
pub value_more : (σ : Values) (here a : ℕ) (js : List SignedTerm) (i : ℕ) (j d : SignedTerm) (v new : ℕ) → i < length js → j ≡ get_or js i d → term_value σ here j.term ≡ Some v → new ≡ joined j.sign a v
    → value_after σ here a (drop i js) ≡ value_after σ here new (drop (i + 1) js)
value_more σ here a js i j d v new h is e sum =
    ap (value_after σ here a) (drop_more js i d h)
    ∙ ap (λ k. value_after σ here a (k ∷ drop (i + 1) js)) (sym is)
    ∙ ap (option_and_then (λ w. value_after σ here (joined j.sign a w) (drop (i + 1) js))) e
    ∙ ap (λ w. value_after σ here w (drop (i + 1) js)) (sym sum)

pub value_all : (σ : Values) (here a : ℕ) (js : List SignedTerm) (i : ℕ) → length js ≤ i → value_after σ here a (drop i js) ≡ Some a
value_all σ here a js i h = ap (value_after σ here a) (drop_all i js h)
