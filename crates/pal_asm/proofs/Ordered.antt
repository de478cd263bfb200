-- The words and the lines of parts are in order, so one pass gives each line its words.
use Rattle.std.proofs.Common.{◌≡◌, ◌∙◌, sym, ap, refl, subst, ℕ, ◌+◌, ◌<◌, List, [], ◌∷◌, ◌++◌, append_assoc, Bool, arith, inl, inr, take, Some, None, Result, Ok, Err}
use Rattle.std.specs.Prelude.{reverse, codes}
use Rattle.std.specs.List.{AllByRecursion}
use Rattle.std.proofs.lemmas.List.{reverse-append, append-nil}
use Rattle.pal_text.specs.declared.statement.PartEnd.{PartEnd}
use Rattle.pal_text.specs.declared.lines.Line.{Line}
use Rattle.pal_text.specs.declared.names.Name.{Name}
use Rattle.pal_text.specs.Lines.{all_lines}
use Rattle.pal_text.specs.Names.{part_tokens}
use Rattle.pal_text.specs.Statements.{Piece, pieces}
use Rattle.pal_acts.specs.declared.act.Act.{Act}
use Rattle.pal_acts.specs.declared.act.Act.TheVariants as act
use Rattle.pal_acts.specs.declared.act.SignedTerm.{SignedTerm}
use Rattle.pal_acts.specs.declared.act.SourcePlace.{SourcePlace}
use Rattle.pal_acts.specs.declared.fault_code.FaultCode.{FaultCode}
use Rattle.pal_acts.specs.Acts.{PlacedAct, place}
use Rattle.pal_acts.specs.Values.{Values, known}
use Rattle.pal_acts.specs.Meaning.{location}
use Rattle.pal_acts.specs.Words.{word_value, word_of}
use Rattle.pal_asm.specs.declared.number.Radix.{Radix}
use Rattle.pal_asm.specs.declared.number.Radix.TheVariants.{Octal}
use Rattle.pal_acts.specs.declared.act.PlacedWord.{PlacedWord}
use Rattle.pal_asm.specs.Numbers.{base, radix_after}
use Rattle.pal_asm.specs.Acts.{statement_acts, Does, ends, goes_on}
use Rattle.pal_asm.specs.Sources.{size_fault, TextLine, text_lines, part_lines, Reads, no_part, broken, last_part, next_part}
use Rattle.pal_acts.specs.Sources.{with_word, words, all_words}
use Rattle.pal_asm.specs.Listings.{symbols_text, listing, Lists}
use Rattle.pal_asm.specs.SourceInCode.{turns_text}
use Rattle.pal_asm.proofs.EachAct.{statement_holds}
use Rattle.pal_asm.proofs.Climbs.{Marks, part_marks}
use Rattle.pal_asm.proofs.Merged.{Upto, upto_trans, After, LinesAfter, words_weaker, lines_weaker, turns_are}

upto_refl : (p : SourcePlace) → Upto p p
upto_refl p = inr (refl, omega arith)

-- acts in order from this place on
abbrev ActsAfter : SourcePlace → List PlacedAct → Type 0
ActsAfter p [] = Unit {0}
ActsAfter p (a ∷ xs) = Upto p (a.place) × ActsAfter (a.place) xs

acts_weaker : (p q : SourcePlace) (xs : List PlacedAct) → Upto p q → ActsAfter q xs → ActsAfter p xs
acts_weaker p q [] h a = tt
acts_weaker p q (x ∷ xs) h a = (upto_trans p q x.place h a.0, a.1)

abbrev IsAt : SourcePlace → PlacedAct → Type 0
IsAt p a = a.place ≡ p

at_after : (p : SourcePlace) (xs tail : List PlacedAct) → AllByRecursion (IsAt p) xs → ActsAfter p tail → ActsAfter p (xs ++ tail)
at_after p [] tail all h = h
at_after p (x ∷ xs) tail all h = let P : SourcePlace → Type 0 = λ q. Upto p q × ActsAfter q (xs ++ tail) in subst P (sym all.0) (upto_refl p, at_after p xs tail all.1 h)

does_after : (n : ℕ) (last : Bool) (source : List ℕ) (r r' : Radix) (l : ℕ) (ps : List Piece) (acts later : List PlacedAct) (c : PartEnd)
    → Marks l ps → Does n last source r ps acts r' c → ((m : ℕ) → ActsAfter (place n m) later) → ActsAfter (place n l) (acts ++ later)
does_after n last source r r' l ps acts later c marks (ends q p qs tags said d reads e) k =
    let at : SourcePlace = place n p.mark.line in
    let mine : List PlacedAct = statement_acts at (base q) last source tags said in
    let all : AllByRecursion (IsAt at) mine = statement_holds (IsAt at) at (λ e a h. refl) (base q) last source tags said (λ js h. refl) in
    acts_weaker (place n l) at (mine ++ later) (inr (refl, marks.0)) (at_after at mine later all (k p.mark.line))
does_after n last source r r' l ps acts later c marks (goes_on q q' p qs tags said more d reads e h) k =
    let at : SourcePlace = place n p.mark.line in
    let mine : List PlacedAct = statement_acts at (base q) last source tags said in
    let all : AllByRecursion (IsAt at) mine = statement_holds (IsAt at) at (λ e a h. refl) (base q) last source tags said (λ js h. refl) in
    let P : List PlacedAct → Type 0 = λ xs. ActsAfter (place n l) xs in
    subst P (sym (append_assoc mine more later))
    (acts_weaker (place n l) at (mine ++ (more ++ later)) (inr (refl, marks.0))
    (at_after at mine (more ++ later) all (does_after n last source (radix_after q said.form) q' p.mark.line qs more later d marks.1 h k)))

reads_after : (p : SourcePlace) (n : ℕ) (r : Radix) (parts : List (List ℕ)) (acts : List PlacedAct) (lines : List TextLine) → p.part < n → Reads n r parts acts lines → ActsAfter p acts
reads_after p n r parts acts lines lt (no_part m q) = tt
reads_after p n r parts acts lines lt (broken m q s ss line is) = (inl lt, tt)
reads_after p n r parts acts lines lt (last_part m q q' s ss mine c does e) =
    let P : List PlacedAct → Type 0 = λ xs. ActsAfter (place m 0) xs in
    acts_weaker p (place m 0) mine (inl lt) (subst P (append-nil mine) (does_after m _ s q q' 0 (pieces 0 0 (part_tokens s)) mine [] c (part_marks s) does (λ k. tt)))
reads_after p n r parts acts lines lt (next_part m q q' s ss mine more ls c does e h) =
    acts_weaker p (place m 0) (mine ++ more) (inl lt)
    (does_after m _ s q q' 0 (pieces 0 0 (part_tokens s)) mine more c (part_marks s) does (λ k. reads_after (place m k) (m + 1) q' ss more ls (omega arith) h))

-- the same with the newest first
abbrev ActsUpto : SourcePlace → List PlacedAct → Type 0
ActsUpto p [] = Unit {0}
ActsUpto p (a ∷ xs) = Upto (a.place) p × ActsUpto (a.place) xs

acts_higher : (p q : SourcePlace) (xs : List PlacedAct) → Upto p q → ActsUpto p xs → ActsUpto q xs
acts_higher p q [] h a = tt
acts_higher p q (x ∷ xs) h a = (upto_trans x.place p q a.0 h, a.1)

acts_turned : (p : SourcePlace) (xs before : List PlacedAct) → ActsAfter p xs → ActsUpto p before → (q : SourcePlace) × ActsUpto q (reverse xs ++ before)
acts_turned p [] before a b = (p, b)
acts_turned p (x ∷ xs) before a b =
    let P : List PlacedAct → Type 0 = λ l. (q : SourcePlace) × ActsUpto q l in
    subst P (sym (ap (λ l. l ++ before) (reverse-append (x ∷ []) xs) ∙ append_assoc (reverse xs) (x ∷ []) before))
    (acts_turned x.place xs (x ∷ before) a.1 (upto_refl x.place, acts_higher p x.place before a.0 b))

abbrev WordsUpto : SourcePlace → List PlacedWord → Type 0
WordsUpto p [] = Unit {0}
WordsUpto p (w ∷ ws) = Upto w.place p × WordsUpto w.place ws

words_higher : (p q : SourcePlace) (ws : List PlacedWord) → Upto p q → WordsUpto p ws → WordsUpto q ws
words_higher p q [] h a = tt
words_higher p q (w ∷ ws) h a = (upto_trans w.place p q a.0 h, a.1)

word_upto : (p q : SourcePlace) (at : ℕ) (value : Result ℕ FaultCode) (ws : List PlacedWord) → Upto q p → WordsUpto q ws → WordsUpto p (with_word q at (Some value) ws)
word_upto p q at (Ok w) ws h a = (h, a)
word_upto p q at (Err c) ws h a = words_higher q p ws h a

and_word_upto : (σ : Values) (here : ℕ) (p q : SourcePlace) (e : List SignedTerm) (a : Act) (ws : List PlacedWord) → Upto q p → WordsUpto q ws → WordsUpto p (with_word q here (word_of σ here e a) ws)
and_word_upto σ here p q e act.Word ws h w = word_upto p q here (word_value σ here e) ws h w
and_word_upto σ here p q e _ ws h w = words_higher q p ws h w

words_upto : (σ : Values) (p : SourcePlace) (before : List PlacedAct) → ActsUpto p before → WordsUpto p (words σ before)
words_upto σ p [] a = tt
words_upto σ p (x ∷ before) a = and_word_upto σ (location σ before) p x.place x.terms x.act (words σ before) a.0 (words_upto σ x.place before a.1)

words_turned : (p : SourcePlace) (ws later : List PlacedWord) → WordsUpto p ws → After p later → (q : SourcePlace) × After q (reverse ws ++ later)
words_turned p [] later a b = (p, b)
words_turned p (w ∷ ws) later a b =
    let P : List PlacedWord → Type 0 = λ l. (q : SourcePlace) × After q l in
    subst P (sym (ap (λ l. l ++ later) (reverse-append (w ∷ []) ws) ∙ append_assoc (reverse ws) (w ∷ []) later))
    (words_turned w.place ws (w ∷ later) a.1 (upto_refl w.place, words_weaker w.place p later a.0 b))

words_after : (σ : Values) (parts : List (List ℕ)) (acts : List PlacedAct) (lines : List TextLine) → Reads 1 Octal parts acts lines → (q : SourcePlace) × After q (all_words σ acts)
words_after σ parts acts lines reads =
    let turned : (q : SourcePlace) × ActsUpto q (reverse acts ++ []) = acts_turned (place 0 0) acts [] (reads_after (place 0 0) 1 Octal parts acts lines (omega arith) reads) tt in
    let P : List PlacedAct → Type 0 = λ l. ActsUpto turned.0 l in
    let upto : WordsUpto turned.0 (words σ (reverse acts)) = words_upto σ turned.0 (reverse acts) (subst P (append-nil (reverse acts)) turned.1) in
    let found : (q : SourcePlace) × After q (all_words σ acts ++ []) = words_turned turned.0 (words σ (reverse acts)) [] upto tt in
    let Q : List PlacedWord → Type 0 = λ l. After found.0 l in
    (found.0, subst Q (append-nil (all_words σ acts)) found.1)

text_after : (n m k : ℕ) (source : List ℕ) (ls : List Line) (later : List TextLine) → m < k → ((i : ℕ) → LinesAfter (place n i) later) → LinesAfter (place n m) (text_lines n k source ls ++ later)
text_after n m k source [] later lt f = f m
text_after n m k source (l ∷ ls) later lt f = (inr (refl, lt), text_after n k (k + 1) source ls later (omega arith) f)

part_lines_after : (p : SourcePlace) (n : ℕ) (source : List ℕ) (c : PartEnd) (later : List TextLine) → p.part < n → ((i : ℕ) → LinesAfter (place n i) later) → LinesAfter p (part_lines n source c ++ later)
part_lines_after p n source c later lt f =
    lines_weaker p (place n 0) (part_lines n source c ++ later) (inl lt) (text_after n 0 1 source (all_lines (take c.stop source)) later (omega arith) f)

lines_after : (p : SourcePlace) (n : ℕ) (r : Radix) (parts : List (List ℕ)) (acts : List PlacedAct) (lines : List TextLine) → p.part < n → Reads n r parts acts lines → LinesAfter p lines
lines_after p n r parts acts lines lt (no_part m q) = tt
lines_after p n r parts acts lines lt (broken m q s ss line is) = tt
lines_after p n r parts acts lines lt (last_part m q q' s ss mine c does e) =
    let P : List TextLine → Type 0 = λ l. LinesAfter p l in
    subst P (append-nil (part_lines m s c)) (part_lines_after p m s c [] lt (λ i. tt))
lines_after p n r parts acts lines lt (next_part m q q' s ss mine more ls c does e h) =
    part_lines_after p m s c ls lt (λ i. lines_after (place m i) (m + 1) q' ss more ls (omega arith) h)

-- the text that one pass makes is the listing
pub listed_by : (σ : Values) (parts : List (List ℕ)) (acts : List PlacedAct) (lines : List TextLine) (own : List (Name × ℕ)) (text : List ℕ) → Reads 1 Octal parts acts lines
    → text ≡ turns_text lines (all_words σ acts) ++ codes "\n" ++ symbols_text own → text ≡ listing lines (all_words σ acts) own
listed_by σ parts acts lines own text reads e =
    let w : (q : SourcePlace) × After q (all_words σ acts) = words_after σ parts acts lines reads in
    e ∙ ap (λ l. l ++ codes "\n" ++ symbols_text own) (turns_are (place 0 0) w.0 lines (all_words σ acts) (lines_after (place 0 0) 1 Octal parts acts lines (omega arith) reads) w.1)

pub lists_by : (perm own : List (Name × ℕ)) (parts : List (List ℕ)) (acts : List PlacedAct) (lines : List TextLine) (text : List ℕ) → size_fault parts ≡ None → Reads 1 Octal parts acts lines
    → text ≡ turns_text lines (all_words (known perm own) acts) ++ codes "\n" ++ symbols_text own → Lists perm parts own text
lists_by perm own parts acts lines text sizes reads e = record { acts = acts; lines = lines; sizes = sizes; reads = reads; so = listed_by (known perm own) parts acts lines own text reads e }
