-- A source has one meaning or one fault, and not both.
use Rattle.std.proofs.Common.{◌≡◌, ◌∙◌, sym, ap, refl, subst, ℕ, ◌+◌, List, [], ◌∷◌, ◌++◌, Bool, Option, Some, None, Result, Ok, Err, inl, inr, ◌⊎◌, length}
use Rattle.std.specs.Prelude.{IfOk, IfErr, MatchResult, codes}
use Rattle.pal_text.specs.declared.tokens.Token.{Token}
use Rattle.pal_text.specs.declared.statement.Statement.{Statement}
use Rattle.pal_text.specs.declared.statement.PartEnd.{PartEnd}
use Rattle.pal_text.specs.declared.statement.Ending.{Ending}
use Rattle.pal_text.specs.declared.names.Name.{Name}
use Rattle.pal_text.specs.Grammar.{Said, IsStatement}
use Rattle.pal_text.specs.Names.{part_tokens}
use Rattle.pal_text.specs.Statements.{Piece, pieces, own, Fills, closing, Breaks, here, later}
use Rattle.pal_text.proofs.Readings.{one_said}
use Rattle.pal_text.proofs.Unique.{one_line}
use Rattle.pal_acts.specs.declared.act.Act.TheVariants as act
use Rattle.pal_acts.specs.declared.fault_code.FaultCode.TheVariants.{IllegalCharacter}
use Rattle.pal_acts.specs.Sources.{IsSource, all_words}
use Rattle.pal_acts.specs.Values.{known}
use Rattle.pal_acts.specs.declared.act.PlacedWord.{PlacedWord}
use Rattle.pal_acts.specs.declared.assembly.ActsFault.{ActsFault}
use Rattle.pal_acts.specs.declared.assembly.ActsFault.TheVariants as refused
use Rattle.pal_acts.specs.Faults.{Refuses as ActsRefuse}
use Rattle.pal_acts.proofs.First.{one_source, not_both, one_fault}
use Rattle.pal_asm.specs.declared.number.Radix.{Radix}
use Rattle.pal_asm.specs.declared.number.Radix.TheVariants.{Octal}
use Rattle.pal_asm.specs.declared.fault.PalFault.{PalFault}
use Rattle.pal_asm.specs.declared.fault.AssembleFault.{AssembleFault}
use Rattle.pal_asm.specs.declared.fault.AssembleFault.TheVariants.{Source, NoMemory}
use Rattle.pal_acts.specs.declared.act.SourcePlace.{SourcePlace}
use Rattle.pal_acts.specs.Acts.{PlacedAct, placed, place}
use Rattle.pal_asm.specs.Numbers.{base, radix_after}
use Rattle.pal_asm.specs.Acts.{statement_acts, Does, ends, goes_on}
use Rattle.pal_asm.specs.Sources.{size_fault, TextLine, part_lines, Reads, no_part, broken, last_part, next_part, Means, HasWords, IsFault, Refuses}
use Rattle.pal_asm.specs.Listings.{symbols_text, Lists}
use Rattle.pal_asm.specs.SourceInCode.{fault_of, IsFaultOf, RefusesActs, turns_text}
use Rattle.pal_asm.proofs.Ordered.{lists_by}

none_some : {X : Type 0} (o : Option X) (x : X) → o ≡ None → o ≡ Some x → ⊥
none_some o x e f = let both : None ≡ Some x = sym e ∙ f in cc

one_some : {X : Type 0} (o : Option X) (x y : X) → o ≡ Some x → o ≡ Some y → x ≡ y
one_some o x y e f = let both : Some x ≡ Some y = sym e ∙ f in cc

some_same : {X : Type 0} (x y : X) → Some x ≡ Some y → x ≡ y
some_same x y e = cc

abbrev ending_in : PartEnd → Ending
ending_in c = c.ending

-- the pieces of a part have one list of acts, and no fault
module _ (n : ℕ) (last : Bool) (source : List ℕ) where
  abbrev after : Piece → Said → Option PartEnd
  after p said = closing (length source) (own (part_tokens source) p) p.mark said.form

  ends_not_on : (p : Piece) (tags others : List Token) (said other : Said) (c : PartEnd) → IsStatement (own (part_tokens source) p) tags said → IsStatement (own (part_tokens source) p) others other
      → after p said ≡ Some c → after p other ≡ None → ⊥
  ends_not_on p tags others said other c s t e h = none_some (after p other) c h (ap (after p) (sym (one_said (own (part_tokens source) p) tags others said other s t).1) ∙ e)

  pub does_one : (r r1 r2 : Radix) (ps : List Piece) (acts others : List PlacedAct) (c d : PartEnd) → Does n last source r ps acts r1 c → Does n last source r ps others r2 d → (acts ≡ others) × (r1 ≡ r2) × (c ≡ d)
  does_one r r1 r2 ps acts others c d (ends q p qs tags said c' s e) (ends q' p' qs' tags' said' d' t f) =
      let same : (tags ≡ tags') × (said ≡ said') = one_said (own (part_tokens source) p) tags tags' said said' s t in (
        λ i. statement_acts (place n p.mark.line) (base q) last source (same.0 i) (same.1 i),
        ap (λ x. radix_after q x.form) same.1,
        some_same c' d' (sym e ∙ ap (after p) same.1 ∙ f),
      )
  does_one r r1 r2 ps acts others c d (ends q p qs tags said c' s e) (goes_on q' r' p' qs' tags' said' more' d' t f k) = absurd (ends_not_on p tags tags' said said' c' s t e f)
  does_one r r1 r2 ps acts others c d (goes_on q r' p qs tags said mine c' s e h) (ends q' p' qs' tags' said' d' t f) = absurd (ends_not_on p tags' tags said' said d' t s f e)
  does_one r r1 r2 ps acts others c d (goes_on q r' p qs tags said mine c' s e h) (goes_on q' r'' p' qs' tags' said' other d' t f k) =
      let same : (tags ≡ tags') × (said ≡ said') = one_said (own (part_tokens source) p) tags tags' said said' s t in
      let P : Said → Type 0 = λ x. Does n last source (radix_after q x.form) qs other r'' d' in
      let more : (mine ≡ other) × (r' ≡ r'') × (c' ≡ d') = does_one (radix_after q said.form) r' r'' qs mine other c' d' h (subst P (sym same.1) k) in (
        λ i. statement_acts (place n p.mark.line) (base q) last source (same.0 i) (same.1 i) ++ more.0 i,
        more.1,
        more.2,
      )

  forms_are : (p : Piece) (tags : List Token) (said : Said) (s : Statement) → IsStatement (own (part_tokens source) p) tags said → (f : Fills (part_tokens source) p s) → closing (length source) (own (part_tokens source) p) p.mark s.form ≡ after p said
  forms_are p tags said s h f =
      ap (closing (length source) (own (part_tokens source) p) p.mark) (ap (λ (s : Statement). s.form) f.is ∙ ap (λ (s : Said). s.form) (one_said (own (part_tokens source) p) f.names tags f.said said f.reads h).1)

  pub does_sound : (r r' : Radix) (ps : List Piece) (acts : List PlacedAct) (c : PartEnd) (line : ℕ) → Does n last source r ps acts r' c → Breaks (part_tokens source) (length source) ps line → ⊥
  does_sound r r' ps acts c line (ends q p qs tags said c' s e) (here p' qs' k) = k tags said s
  does_sound r r' ps acts c line (ends q p qs tags said c' s e) (later p' qs' t m f g k) = none_some (after p said) c' (sym (forms_are p tags said t s f) ∙ g) e
  does_sound r r' ps acts c line (goes_on q q' p qs tags said more c' s e h) (here p' qs' k) = k tags said s
  does_sound r r' ps acts c line (goes_on q q' p qs tags said more c' s e h) (later p' qs' t m f g k) = does_sound (radix_after q said.form) q' qs more c' m h k

-- parts have one list of acts, and one of lines
pub reads_one : (n : ℕ) (r : Radix) (parts : List (List ℕ)) (acts others : List PlacedAct) (lines more : List TextLine) → Reads n r parts acts lines → Reads n r parts others more → (acts ≡ others) × (lines ≡ more)
reads_one n r parts acts others lines more (no_part m q) (no_part m' q') = (refl, refl)
reads_one n r parts acts others lines more (broken m q p ps line is) (broken m' q' p' ps' line' is') = (ap (λ l. placed (place m l) [] (act.Wrong IllegalCharacter) ∷ []) (one_line p line line' is is'), refl)
reads_one n r parts acts others lines more (broken m q p ps line is) (last_part m' q' r' p' ps' b c does e) = absurd (does_sound m _ p q r' (pieces 0 0 (part_tokens p)) b c line does is)
reads_one n r parts acts others lines more (broken m q p ps line is) (next_part m' q' r' p' ps' b b' ls c does e h) = absurd (does_sound m _ p q r' (pieces 0 0 (part_tokens p)) b c line does is)
reads_one n r parts acts others lines more (last_part m q r' p ps a c does e) (broken m' q' p' ps' line is) = absurd (does_sound m _ p q r' (pieces 0 0 (part_tokens p)) a c line does is)
reads_one n r parts acts others lines more (next_part m q r' p ps a a' ls c does e h) (broken m' q' p' ps' line is) = absurd (does_sound m _ p q r' (pieces 0 0 (part_tokens p)) a c line does is)
reads_one n r parts acts others lines more (last_part m q r' p ps a c does e) (last_part m' q' r'' p' ps' b d does' f) =
    let same : (a ≡ b) × (r' ≡ r'') × (c ≡ d) = does_one m _ p q r' r'' (pieces 0 0 (part_tokens p)) a b c d does does' in
    (same.0, ap (part_lines m p) same.2)
reads_one n r parts acts others lines more (last_part m q r' p ps a c does e) (next_part m' q' r'' p' ps' b b' ls d does' f k) =
    let same : (a ≡ b) × (r' ≡ r'') × (c ≡ d) = does_one m _ p q r' r'' (pieces 0 0 (part_tokens p)) a b c d does does' in
    absurd (f (ap ending_in (sym same.2) ∙ e))
reads_one n r parts acts others lines more (next_part m q r' p ps a a' ls c does e h) (last_part m' q' r'' p' ps' b d does' f) =
    let same : (a ≡ b) × (r' ≡ r'') × (c ≡ d) = does_one m _ p q r' r'' (pieces 0 0 (part_tokens p)) a b c d does does' in
    absurd (e (ap ending_in same.2 ∙ f))
reads_one n r parts acts others lines more (next_part m q r' p ps a a' ls c does e h) (next_part m' q' r'' p' ps' b b' ls' d does' f k) =
    let same : (a ≡ b) × (r' ≡ r'') × (c ≡ d) = does_one m _ p q r' r'' (pieces 0 0 (part_tokens p)) a b c d does does' in
    let P : Radix → Type 0 = λ x. Reads (m + 1) x ps b' ls' in
    let rest : (a' ≡ b') × (ls ≡ ls') = reads_one (m + 1) r' ps a' b' ls ls' h (subst P (sym same.1) k) in
    ((λ i. same.0 i ++ rest.0 i), (λ i. part_lines m p (same.2 i) ++ rest.1 i))

module _ (perm : List (Name × ℕ)) (parts : List (List ℕ)) where
  pub means_one : (s u : List (Name × ℕ)) (i j : List (Option ℕ)) → Means perm parts s i → Means perm parts u j → (s ≡ u) × (i ≡ j)
  means_one s u i j h k =
      let e : h.acts ≡ k.acts = (reads_one 1 Octal parts h.acts k.acts h.lines k.lines h.reads k.reads).0 in
      let P : List PlacedAct → Type 0 = λ l. IsSource perm 1024 l s i in
      one_source perm 1024 k.acts s u i j (subst P e h.so) k.so

  pub means_sound : (s : List (Name × ℕ)) (i : List (Option ℕ)) (fault : PalFault) → Means perm parts s i → IsFault perm parts fault → ⊥
  means_sound s i fault h (inl k) = none_some (size_fault parts) fault h.sizes k
  means_sound s i fault h (inr k) =
      let e : h.acts ≡ k.acts = (reads_one 1 Octal parts h.acts k.acts h.lines k.lines h.reads k.reads).0 in
      let P : List PlacedAct → Type 0 = λ l. IsSource perm 1024 l s i in
      not_both perm 1024 k.acts s i (place fault.part fault.line) fault.code (subst P e h.so) k.so

  one_fault_of : (acts : List PlacedAct) (f g : PalFault) → IsFaultOf perm acts f → IsFaultOf perm acts g → f ≡ g
  one_fault_of acts f g h k =
      let e : (place f.part f.line ≡ place g.part g.line) × (f.code ≡ g.code) = one_fault perm 1024 acts (place f.part f.line) (place g.part g.line) f.code g.code h k in
      let part_in : SourcePlace → ℕ = λ p. p.part in
      let line_in : SourcePlace → ℕ = λ p. p.line in
      let parts_are : f.part ≡ g.part = ap part_in e.0 in
      let lines_are : f.line ≡ g.line = ap line_in e.0 in
      λ i. record { code = e.1 i; part = parts_are i; line = lines_are i }

  pub faults_one : (f g : PalFault) → IsFault perm parts f → IsFault perm parts g → f ≡ g
  faults_one f g (inl h) (inl k) = one_some (size_fault parts) f g h k
  faults_one f g (inl h) (inr k) = absurd (none_some (size_fault parts) f k.sizes h)
  faults_one f g (inr h) (inl k) = absurd (none_some (size_fault parts) g h.sizes k)
  faults_one f g (inr h) (inr k) =
      let e : h.acts ≡ k.acts = (reads_one 1 Octal parts h.acts k.acts h.lines k.lines h.reads k.reads).0 in
      let P : List PlacedAct → Type 0 = λ l. IsFaultOf perm l f in
      one_fault_of k.acts f g (subst P e h.so) k.so

  -- a source with a meaning is refused for want of memory alone
  pub silent : (s : List (Name × ℕ)) (i : List (Option ℕ)) → Means perm parts s i → (e : AssembleFault) → Refuses perm parts e → e ≡ NoMemory
  silent s i h (Source fault) k = absurd (means_sound s i fault h k)
  silent s i h NoMemory k = refl

  -- one with a fault tells no other
  pub tells_only : (fault : PalFault) → IsFault perm parts fault → (e : AssembleFault) → Refuses perm parts e → (e ≡ Source fault) ⊎ (e ≡ NoMemory)
  tells_only fault h (Source told) k = inl (ap Source (faults_one told fault k h))
  tells_only fault h NoMemory k = inr refl

pub matched : {X : Type 0} (r : Result X AssembleFault) (P Q : X → Type 0) (F G : AssembleFault → Type 0) → IfOk r P → IfErr r F → ((x : X) → P x → Q x) → ((e : AssembleFault) → F e → G e) → MatchResult r Q G
matched (Ok x) P Q F G ok err p f = p x ok
matched (Err e) P Q F G ok err p f = f e err

-- a refusal of acts is that of their source
pub told_so : (perm : List (Name × ℕ)) (acts : List PlacedAct) (r : ActsFault) → ActsRefuse perm 1024 acts r → RefusesActs perm acts (fault_of r)
told_so perm acts (refused.Fault place code) h = h
told_so perm acts refused.NoMemory h = tt

-- of an answer what follows from what is known of it
one : {X : Type 0} (r : Result X AssembleFault) {P Q : X → Type 0} → IfOk r P → ((x : X) → P x → Q x) → IfOk r Q
one (Ok x) h f = f x h
one (Err e) h f = tt

both : {X : Type 0} (r : Result X AssembleFault) {P Q R : X → Type 0} → IfOk r P → IfOk r Q → ((x : X) → P x → Q x → R x) → IfOk r R
both (Ok x) h k f = f x h k
both (Err e) h k f = tt

told : {X : Type 0} (r : Result X AssembleFault) {F G : AssembleFault → Type 0} → IfErr r F → ((e : AssembleFault) → F e → G e) → IfErr r G
told (Ok x) h f = tt
told (Err e) h f = f e h

-- an answer that was made of this is one of whatever holds of it
pub of_same : {X T : Type 0} (r : Result X AssembleFault) (of : X → T) (t : T) → IfOk r (λ x. of x ≡ t) → (P : T → Type 0) → P t → IfOk r (λ x. P (of x))
of_same r of t same P h = one r same (λ x e. subst P (sym e) h)

-- a refusal for want of memory is one of all sources
pub silent_refuses : {X : Type 0} (r : Result X AssembleFault) (perm : List (Name × ℕ)) (parts : List (List ℕ)) → IfErr r (λ e. e ≡ NoMemory) → IfErr r (Refuses perm parts)
silent_refuses r perm parts h = told r h (λ e is. subst (Refuses perm parts) (sym is) tt)

-- what acts mean is what their parts mean, and their listing and their refusal those of their parts
module _ (perm : List (Name × ℕ)) (parts : List (List ℕ)) (acts : List PlacedAct) (lines : List TextLine) (sizes : size_fault parts ≡ None) (reads : Reads 1 Octal parts acts lines) where
  pub means : (own : List (Name × ℕ)) (image : List (Option ℕ)) → IsSource perm 1024 acts own image → Means perm parts own image
  means own image h = record { acts = acts; lines = lines; sizes = sizes; reads = reads; so = h }

  pub has_words : (own : List (Name × ℕ)) (ws : List PlacedWord) → ws ≡ all_words (known perm own) acts → HasWords perm parts own ws
  has_words own ws h = record { acts = acts; lines = lines; sizes = sizes; reads = reads; so = h }

  pub refuses : (e : AssembleFault) → RefusesActs perm acts e → Refuses perm parts e
  refuses (Source fault) h = inr (record { acts = acts; lines = lines; sizes = sizes; reads = reads; so = h })
  refuses NoMemory h = tt

  module _ {X : Type 0} (r : Result X AssembleFault) where
    pub means_if : (symbols : X → List (Name × ℕ)) (image_in : X → List (Option ℕ)) → IfOk r (λ x. IsSource perm 1024 acts (symbols x) (image_in x)) → IfOk r (λ x. Means perm parts (symbols x) (image_in x))
    means_if symbols image_in h = one r h (λ x is. means (symbols x) (image_in x) is)

    pub refuses_if : IfErr r (RefusesActs perm acts) → IfErr r (Refuses perm parts)
    refuses_if h = told r h refuses

    -- the text of what was translated so lists its source
    pub lists_if : (symbols : X → List (Name × ℕ)) (text : X → List ℕ) (own : List (Name × ℕ)) (ws : List PlacedWord) (there : List TextLine) → there ≡ lines → ws ≡ all_words (known perm own) acts → IfOk r (λ x. symbols x ≡ own)
        → IfOk r (λ x. text x ≡ turns_text there ws ++ codes "\n" ++ symbols_text own) → IfOk r (λ x. Lists perm parts (symbols x) (text x))
    lists_if symbols text own ws there same words e f =
        both r e f (λ x own_is text_is. let P : List (Name × ℕ) → Type 0 = λ s. Lists perm parts s (text x) in
        subst P (sym own_is) (lists_by perm own parts acts lines (text x) sizes reads (text_is ∙ (λ i. turns_text (same i) (words i) ++ codes "\n" ++ symbols_text own))))
