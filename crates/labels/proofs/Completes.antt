-- The declaration within parts, with the addresses that its lines leave out.
use Rattle.std.proofs.Common.{ℕ, ◌≡◌, ◌∙◌, sym, ap, subst, List, [], Bool, false, Option, Result, Ok, Err}
use Rattle.std.specs.Prelude.{IfOk}
use Rattle.instruct.specs.declared.Profile.{Profile}
use Rattle.pal_text.specs.declared.names.Name.{Name}
use Rattle.pal_acts.specs.declared.act.PlacedWord.{PlacedWord}
use Rattle.pal_acts.specs.Permanent.{permanent_symbols}
use Rattle.pal_asm.specs.declared.fault.PalFault.{PalFault}
use Rattle.pal_asm.specs.Sources.{Means, HasWords, IsFault}
use Rattle.labels.specs.Located.{lacks_some}
use Rattle.labels.specs.Within.{machine, Declared, DeclaredWithin, HasWordsFor}
use Rattle.labels.specs.Within.DeclaredWithin.{whole, completed, faulty}

-- what follows of what is given
pub then_so : {X E : Type 0} (r : Result X E) (P Q : X → Type 0) → ((x : X) → P x → Q x) → IfOk r P → IfOk r Q
then_so (Ok x) P Q f h = f x h
then_so (Err e) P Q f h = tt

module _ (parts : List (List ℕ)) (text shown : List ℕ) (declared : Declared [] 1 parts text) (same : shown ≡ text) where
  -- each line has its address
  pub all_located : (r : Bool) → r ≡ lacks_some shown → r ≡ false → DeclaredWithin parts text
  all_located r e f = whole text declared (ap lacks_some (sym same) ∙ sym e ∙ f)

  -- the parts have a fault
  pub without_words : (profile : Profile) (fault : PalFault) → profile ≡ machine shown → IsFault (permanent_symbols profile) parts fault → DeclaredWithin parts text
  without_words profile fault e h =
      let P : Profile → Type 0 = λ p. IsFault (permanent_symbols p) parts fault in
      faulty text fault declared (subst P (e ∙ ap machine same) h)

  -- the parts have words, which give the addresses
  has_words : (profile : Profile) (symbols : List (Name × ℕ)) (image : List (Option ℕ)) (words : List PlacedWord) → profile ≡ machine shown → Means (permanent_symbols profile) parts symbols image → HasWords (permanent_symbols profile) parts symbols words → HasWordsFor parts text words
  has_words profile symbols image words e means has =
      let P : Profile → Type 0 = λ p. Means (permanent_symbols p) parts symbols image in
      let Q : Profile → Type 0 = λ p. HasWords (permanent_symbols p) parts symbols words in
      record { symbols = symbols; image = image; means = subst P (e ∙ ap machine same) means; has = subst Q (e ∙ ap machine same) has }

  pub with_words : (profile : Profile) (symbols : List (Name × ℕ)) (image : List (Option ℕ)) (found words : List PlacedWord) → profile ≡ machine shown → Means (permanent_symbols profile) parts symbols image → HasWords (permanent_symbols profile) parts symbols found → words ≡ found
      → (all : List ℕ) → Declared words 1 parts all → DeclaredWithin parts all
  with_words profile symbols image found words e means has is all h =
      let P : List PlacedWord → Type 0 = λ w. Declared w 1 parts all in
      completed text all found declared (has_words profile symbols image found e means has) (subst P is h)
