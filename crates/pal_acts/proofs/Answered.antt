-- Each list of acts has a meaning or a fault.
use Rattle.std.proofs.Common.{◌≡◌, ◌∙◌, sym, ap, refl, subst, ℕ, suc, zero, ◌+◌, ◌<◌, arith, List, [], ◌∷◌, ◌++◌, append_assoc, append-nil, Option, None, Some, Result, Ok, Err, inl, inr, ◌⊎◌, length, get_or}
use Rattle.std.specs.Prelude.{reverse}
use Rattle.std.proofs.lemmas.List.{reverse-append, reverse-reverse}
use Rattle.std.proofs.lemmas.Option.{unwrap_or-slice_get}
use Rattle.pal_text.specs.declared.names.Name.{Name}
use Rattle.pal_acts.specs.declared.act.SourcePlace.{SourcePlace}
use Rattle.pal_acts.specs.declared.act.PlacedWord.{PlacedWord}
use Rattle.pal_acts.specs.declared.fault_code.FaultCode.{FaultCode}
use Rattle.pal_acts.specs.Acts.{PlacedAct}
use Rattle.pal_acts.specs.Values.{Values, known}
use Rattle.pal_acts.specs.Meaning.{location, next_taken, Defines, nothing, one_more}
use Rattle.pal_acts.specs.Words.{word_of}
use Rattle.pal_acts.specs.Sources.{Encodes, words, last_at, IsImage, IsSource}
use Rattle.pal_acts.specs.Faults.{Stops, Finds, IsRefused}

-- acts that were gone through, the newest first, and those that are left
gone_all : {X : Type 0} (acts before : List X) → acts ≡ reverse before ++ [] → before ≡ reverse acts
gone_all acts before is = sym (reverse-reverse before) ∙ ap reverse (sym (append-nil (reverse before)) ∙ sym is)

gone_more : {X : Type 0} (acts before rest : List X) (a : X) → acts ≡ reverse before ++ a ∷ rest → acts ≡ reverse (a ∷ before) ++ rest
gone_more acts before rest a is = is ∙ sym (append_assoc (reverse before) (a ∷ []) rest) ∙ ap (λ k. k ++ rest) (sym (reverse-append (a ∷ []) before))

-- acts have own symbols, or there is a first one with a fault that isn't a word's
module _ (perm : List (Name × ℕ)) (limit : ℕ) (acts : List PlacedAct) where
  abbrev DefinedOrNot : Type 0
  DefinedOrNot = ((own : List (Name × ℕ)) × Defines perm limit (reverse acts) own) ⊎ ((at : SourcePlace) × (code : FaultCode) × Stops perm limit acts at code)

  taken_so : (before : List PlacedAct) (a : PlacedAct) (rest : List PlacedAct) (own : List (Name × ℕ)) → acts ≡ reverse before ++ a ∷ rest → Defines perm limit before own
      → (r : Result (List (Name × ℕ)) FaultCode) → next_taken perm limit own before a ≡ r
      → ((new : List (Name × ℕ)) → Defines perm limit (a ∷ before) new → DefinedOrNot) → DefinedOrNot
  taken_so before a rest own is d (Ok new) e on = on new (one_more before a own new d e)
  taken_so before a rest own is d (Err code) e on = inr (a.place, code, record { earlier = before; next = a; later = rest; parts = is; such = (refl, (own, d, e)) })

  defined : (before rest : List PlacedAct) (own : List (Name × ℕ)) → acts ≡ reverse before ++ rest → Defines perm limit before own → DefinedOrNot
  defined before [] own is d = inl (own, subst (λ l. Defines perm limit l own) (gone_all acts before is) d)
  defined before (a ∷ rest) own is d =
      taken_so before a rest own is d (next_taken perm limit own before a) refl (λ new k. defined (a ∷ before) rest new (gone_more acts before rest a is) k)

-- acts have words, or there is a first one whose word has a fault
module _ (σ : Values) (acts : List PlacedAct) where
  abbrev EncodedOrNot : Type 0
  EncodedOrNot = Encodes σ (reverse acts) ⊎ ((at : SourcePlace) × (code : FaultCode) × Finds σ acts at code)

  word_so : (before : List PlacedAct) (a : PlacedAct) (rest : List PlacedAct) → acts ≡ reverse before ++ a ∷ rest → Encodes σ before
      → (o : Option (Result ℕ FaultCode)) → word_of σ (location σ before) a.terms a.act ≡ o → (Encodes σ (a ∷ before) → EncodedOrNot) → EncodedOrNot
  word_so before a rest is h None e on = on ((λ code f. let both : None ≡ Some (Err code) = sym e ∙ f in cc), h)
  word_so before a rest is h (Some (Ok w)) e on = on ((λ code f. let both : Some (Ok w) ≡ Some (Err code) = sym e ∙ f in cc), h)
  word_so before a rest is h (Some (Err code)) e on = inr (a.place, code, record { earlier = before; next = a; later = rest; parts = is; such = (refl, h, e) })

  encoded : (before rest : List PlacedAct) → acts ≡ reverse before ++ rest → Encodes σ before → EncodedOrNot
  encoded before [] is h = inl (subst (Encodes σ) (gone_all acts before is) h)
  encoded before (a ∷ rest) is h = word_so before a rest is h (word_of σ (location σ before) a.terms a.act) refl (λ k. encoded (a ∷ before) rest (gone_more acts before rest a is) k)

-- the values of a function from a number on, so many of them
table : (ℕ → Option ℕ) → ℕ → ℕ → List (Option ℕ)
table f at zero = []
table f at (suc n) = f at ∷ table f (at + 1) n

table_length : (f : ℕ → Option ℕ) (at n : ℕ) → length (table f at n) ≡ n
unfolding table
table_length f at zero = refl
table_length f at (suc n) = omega (arith, table_length f (at + 1) n)

table_holds : (f : ℕ → Option ℕ) (at n i : ℕ) → i < n → get_or (table f at n) i None ≡ f (at + i)
unfolding table
table_holds f at zero i h = absurd (omega arith)
table_holds f at (suc n) zero h = let e : at ≡ at + 0 = omega arith in ap f e
table_holds f at (suc n) (suc i) h = let e : at + 1 + i ≡ at + suc i = omega arith in table_holds f (at + 1) n i (omega arith) ∙ ap f e

-- words have an image
image_there : (ws : List PlacedWord) → (image : List (Option ℕ)) × IsImage ws image
image_there ws =
    let f : ℕ → Option ℕ = λ a. last_at a ws in (
      table f 0 4096,
      record { size = table_length f 0 4096; cells = λ a h. let front : 0 + a ≡ a = omega arith in unwrap_or-slice_get (table f 0 4096) a None ∙ table_holds f 0 4096 a h ∙ ap f front },
    )

module _ (perm : List (Name × ℕ)) (limit : ℕ) (acts : List PlacedAct) where
  abbrev pub Answers : Type 0
  Answers = ((own : List (Name × ℕ)) × (image : List (Option ℕ)) × IsSource perm limit acts own image) ⊎ ((place : SourcePlace) × (code : FaultCode) × IsRefused perm limit acts place code)

  with_words : (own : List (Name × ℕ)) → Defines perm limit (reverse acts) own → EncodedOrNot (known perm own) acts → Answers
  with_words own d (inl h) =
      let image = image_there (words (known perm own) (reverse acts)) in
      inl (own, image.0, record { defines = d; encodes = h; image_is = image.1 })
  with_words own d (inr r) = inr (r.0, r.1, inr (own, d, r.2))

  with_symbols : DefinedOrNot perm limit acts → Answers
  with_symbols (inl r) = with_words r.0 r.1 (encoded (known perm r.0) acts [] acts refl tt)
  with_symbols (inr r) = inr (r.0, r.1, inl r.2)

pub each_source_is_answered : (perm : List (Name × ℕ)) (limit : ℕ) (acts : List PlacedAct) → Answers perm limit acts
each_source_is_answered perm limit acts = with_symbols perm limit acts (defined perm limit acts [] acts [] refl nothing)
