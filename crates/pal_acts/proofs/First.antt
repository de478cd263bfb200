-- A source has one meaning or one fault.
use Rattle.std.proofs.Common.{◌≡◌, ◌∙◌, sym, ap, refl, ℕ, List, [], ◌∷◌, ◌++◌, append_assoc, Option, Some, inl, inr, subst, ◌⊎◌}
use Rattle.std.specs.Prelude.{reverse, Result, Ok, Err}
use Rattle.std.proofs.lemmas.List.{reverse-append, reverse-reverse}
use Rattle.pal_text.specs.declared.names.Name.{Name}
use Rattle.pal_acts.specs.declared.act.SourcePlace.{SourcePlace}
use Rattle.pal_acts.specs.declared.fault_code.FaultCode.{FaultCode}
use Rattle.pal_acts.specs.Acts.{PlacedAct}
use Rattle.pal_acts.specs.Values.{Values, known}
use Rattle.pal_acts.specs.Meaning.{location, next_taken, Defines}
use Rattle.pal_acts.specs.Words.{word_of}
use Rattle.pal_acts.specs.Sources.{Encodes, words, IsImage, IsSource}
use Rattle.pal_acts.specs.Faults.{Stops, Finds, IsRefused}
use Rattle.pal_acts.proofs.Defined.{Came, came, unique}
use Rattle.pal_acts.proofs.Images.{one_image}

-- two ways to cut a list at an element
cut_cases : {X : Type 0} (xs ys : List X) (a b : X) (p q : List X) → xs ++ a ∷ p ≡ ys ++ b ∷ q
    → ((xs ≡ ys) × (a ≡ b)) ⊎ (((m : List X) × (ys ≡ xs ++ a ∷ m)) ⊎ ((m : List X) × (xs ≡ ys ++ b ∷ m)))
cut_cases [] [] a b p q e = inl (refl, cc)
cut_cases [] (y ∷ ys) a b p q e = let h : a ≡ y = cc in inr (inl (ys, λ i. sym h i ∷ ys))
cut_cases (x ∷ xs) [] a b p q e = let h : x ≡ b = cc in inr (inr (xs, λ i. h i ∷ xs))
cut_cases (x ∷ xs) (y ∷ ys) a b p q e =
    let h : x ≡ y = cc in
    let tail : xs ++ a ∷ p ≡ ys ++ b ∷ q = cc in
    elim (cut_cases xs ys a b p q tail) [
      | inl r ↦ inl ((λ i. h i ∷ r.0 i), r.1)
      | inr (inl r) ↦ inr (inl (r.0, λ i. sym h i ∷ r.1 i))
      | inr (inr r) ↦ inr (inr (r.0, λ i. h i ∷ r.1 i))
    ]

turned : {X : Type 0} (e l : List X) (n : X) → reverse (reverse e ++ n ∷ l) ≡ reverse l ++ n ∷ e
turned e l n =
    reverse-append (reverse e) (n ∷ l) ∙ ap (λ k. reverse (n ∷ l) ++ k) (reverse-reverse e)
    ∙ ap (λ k. k ++ e) (reverse-append (n ∷ []) l) ∙ append_assoc (reverse l) (n ∷ []) e

turned_back : {X : Type 0} (e f m : List X) (n : X) → reverse f ≡ reverse e ++ n ∷ m → f ≡ reverse m ++ n ∷ e
turned_back e f m n h = sym (reverse-reverse f) ∙ ap reverse h ∙ turned e m n

reverse_same : {X : Type 0} (e f : List X) → reverse e ≡ reverse f → e ≡ f
reverse_same e f h = sym (reverse-reverse e) ∙ ap reverse h ∙ reverse-reverse f

-- where what comes first goes wrong
module _ (Good : List PlacedAct → Type 0) (Fine : List PlacedAct → PlacedAct → Type 0) (Bad : List PlacedAct → PlacedAct → FaultCode → Type 0)
    (back : (m e : List PlacedAct) (n : PlacedAct) → Good (m ++ n ∷ e) → Fine e n)
    (apart : (e : List PlacedAct) (n : PlacedAct) (c : FaultCode) → Fine e n → Bad e n c → ⊥)
    (one : (e : List PlacedAct) (n : PlacedAct) (c d : FaultCode) → Bad e n c → Bad e n d → c ≡ d) where
  never : (acts e l : List PlacedAct) (n : PlacedAct) (c : FaultCode) → Good (reverse acts) → acts ≡ reverse e ++ n ∷ l → Bad e n c → ⊥
  never acts e l n c g parts bad = apart e n c (back (reverse l) e n (subst Good (ap reverse parts ∙ turned e l n) g)) bad

  first : (acts e f l k : List PlacedAct) (n o : PlacedAct) (c d : FaultCode) → Good e → Good f → acts ≡ reverse e ++ n ∷ l → acts ≡ reverse f ++ o ∷ k → Bad e n c → Bad f o d → (n ≡ o) × (c ≡ d)
  first acts e f l k n o c d g h p q bad worse = elim (cut_cases (reverse e) (reverse f) n o l k (sym p ∙ q)) [
    | inl r ↦
        let same_front : e ≡ f = reverse_same e f r.0 in
        (r.1, one f o c d (subst (λ x. Bad f x c) r.1 (subst (λ x. Bad x n c) same_front bad)) worse)
    | inr (inl r) ↦ absurd (apart e n c (back (reverse r.0) e n (subst Good (turned_back e f r.0 n r.1) h)) bad)
    | inr (inr r) ↦ absurd (apart f o d (back (reverse r.0) f o (subst Good (turned_back f e r.0 o r.1) g)) worse)
  ]

abbrev err : FaultCode → Result (List (Name × ℕ)) FaultCode
err c = Err c

one_err : (c d : FaultCode) → err c ≡ err d → c ≡ d
one_err c d e = cc

module _ (perm : List (Name × ℕ)) (limit : ℕ) where
  abbrev Defined : List PlacedAct → Type 0
  Defined acts = (s : List (Name × ℕ)) × Defines perm limit acts s

  abbrev Fits : List PlacedAct → PlacedAct → Type 0
  Fits e n = (s new : List (Name × ℕ)) × Defines perm limit e s × (next_taken perm limit s e n ≡ Ok new)

  abbrev Fails : List PlacedAct → PlacedAct → FaultCode → Type 0
  Fails e n c = (s : List (Name × ℕ)) × Defines perm limit e s × (next_taken perm limit s e n ≡ Err c)

  fits_back : (m e : List PlacedAct) (n : PlacedAct) → Defined (m ++ n ∷ e) → Fits e n
  fits_back [] e n (s, d) = let b : Came perm limit e n s = came perm limit e n s d in (b.own, s, b.defines, b.taken_is)
  fits_back (x ∷ m) e n (s, d) = let b : Came perm limit (m ++ n ∷ e) x s = came perm limit (m ++ n ∷ e) x s d in fits_back m e n (b.own, b.defines)

  fits_apart : (e : List PlacedAct) (n : PlacedAct) (c : FaultCode) → Fits e n → Fails e n c → ⊥
  fits_apart e n c (s, new, d, h) (u, k, f) = let same_symbols = ap (λ s. next_taken perm limit s e n) (unique perm limit e s u d k) in cc (sym h ∙ same_symbols ∙ f)

  fails_one : (e : List PlacedAct) (n : PlacedAct) (c d : FaultCode) → Fails e n c → Fails e n d → c ≡ d
  fails_one e n c d (s, k, h) (u, l, f) = one_err c d (sym h ∙ ap (λ s. next_taken perm limit s e n) (unique perm limit e s u k l) ∙ f)

  fails : (acts : List PlacedAct) (at : SourcePlace) (c : FaultCode) → (h : Stops perm limit acts at c) → Fails h.earlier h.next c
  fails acts at c h = h.such.1

  stops_never : (acts : List PlacedAct) (at : SourcePlace) (c : FaultCode) (s : List (Name × ℕ)) → Defines perm limit (reverse acts) s → Stops perm limit acts at c → ⊥
  stops_never acts at c s d h = never Defined Fits Fails fits_back fits_apart fails_one acts h.earlier h.later h.next c (s, d) h.parts (fails acts at c h)

  stops_one : (acts : List PlacedAct) (at au : SourcePlace) (c d : FaultCode) → Stops perm limit acts at c → Stops perm limit acts au d → (at ≡ au) × (c ≡ d)
  stops_one acts at au c d h k =
      let r = first Defined Fits Fails fits_back fits_apart fails_one acts h.earlier k.earlier h.later k.later h.next k.next c d (h.such.1.0, h.such.1.1) (k.such.1.0, k.such.1.1) h.parts k.parts (fails acts at c h) (fails acts au d k) in
      (h.such.0 ∙ ap (λ a. a.place) r.0 ∙ sym k.such.0, r.1)

module _ (σ : Values) where
  abbrev IsWordFine : List PlacedAct → PlacedAct → Type 0
  IsWordFine e n = Encodes σ (n ∷ e)

  words_back : (m e : List PlacedAct) (n : PlacedAct) → Encodes σ (m ++ n ∷ e) → IsWordFine e n
  words_back [] e n h = h
  words_back (x ∷ m) e n h = words_back m e n h.1

  abbrev Breaks : List PlacedAct → PlacedAct → FaultCode → Type 0
  Breaks e n c = word_of σ (location σ e) n.terms n.act ≡ Some (Err c)

  words_apart : (e : List PlacedAct) (n : PlacedAct) (c : FaultCode) → IsWordFine e n → Breaks e n c → ⊥
  words_apart e n c h k = h.0 c k

  words_one : (e : List PlacedAct) (n : PlacedAct) (c d : FaultCode) → Breaks e n c → Breaks e n d → c ≡ d
  words_one e n c d h k = let both = sym h ∙ k in cc

  finds_never : (acts : List PlacedAct) (at : SourcePlace) (c : FaultCode) → Encodes σ (reverse acts) → Finds σ acts at c → ⊥
  finds_never acts at c g h = never (Encodes σ) IsWordFine Breaks words_back words_apart words_one acts h.earlier h.later h.next c g h.parts h.such.2

  finds_one : (acts : List PlacedAct) (at au : SourcePlace) (c d : FaultCode) → Finds σ acts at c → Finds σ acts au d → (at ≡ au) × (c ≡ d)
  finds_one acts at au c d h k =
      let r = first (Encodes σ) IsWordFine Breaks words_back words_apart words_one acts h.earlier k.earlier h.later k.later h.next k.next c d h.such.1 k.such.1 h.parts k.parts h.such.2 k.such.2 in
      (h.such.0 ∙ ap (λ a. a.place) r.0 ∙ sym k.such.0, r.1)

pub one_source : (perm : List (Name × ℕ)) (limit : ℕ) (acts : List PlacedAct) (s u : List (Name × ℕ)) (i j : List (Option ℕ))
    → IsSource perm limit acts s i → IsSource perm limit acts u j → (s ≡ u) × (i ≡ j)
one_source perm limit acts s u i j h k =
    let e : s ≡ u = unique perm limit (reverse acts) s u h.defines k.defines in
    (e, one_image (words (known perm u) (reverse acts)) i j (subst (λ s. IsImage (words (known perm s) (reverse acts)) i) e h.image_is) k.image_is)

pub not_both : (perm : List (Name × ℕ)) (limit : ℕ) (acts : List PlacedAct) (s : List (Name × ℕ)) (i : List (Option ℕ)) (at : SourcePlace) (c : FaultCode)
    → IsSource perm limit acts s i → IsRefused perm limit acts at c → ⊥
not_both perm limit acts s i at c h (inl k) = stops_never perm limit acts at c s h.defines k
not_both perm limit acts s i at c h (inr k) =
    let e : k.0 ≡ s = unique perm limit (reverse acts) k.0 s k.1 h.defines in
    finds_never (known perm s) acts at c h.encodes (subst (λ s. Finds (known perm s) acts at c) e k.2)

pub one_fault : (perm : List (Name × ℕ)) (limit : ℕ) (acts : List PlacedAct) (at au : SourcePlace) (c d : FaultCode)
    → IsRefused perm limit acts at c → IsRefused perm limit acts au d → (at ≡ au) × (c ≡ d)
one_fault perm limit acts at au c d (inl h) (inl k) = stops_one perm limit acts at au c d h k
one_fault perm limit acts at au c d (inl h) (inr k) = absurd (stops_never perm limit acts at c k.0 k.1 h)
one_fault perm limit acts at au c d (inr h) (inl k) = absurd (stops_never perm limit acts au d h.0 h.1 k)
one_fault perm limit acts at au c d (inr h) (inr k) =
    let e : h.0 ≡ k.0 = unique perm limit (reverse acts) h.0 k.0 h.1 k.1 in
    finds_one (known perm k.0) acts at au c d (subst (λ s. Finds (known perm s) acts at c) e h.2) k.2
