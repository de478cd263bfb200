-- Parts read one after another.
use Rattle.std.proofs.Common.{◌≡◌, ◌≢◌, ◌∙◌, sym, ap, refl, subst, ℕ, ◌+◌, ◌<◌, ◌≤◌, List, [], ◌∷◌, ◌++◌, append_assoc, Bool, arith, length, get_or, drop, take, inl, inr, ◌⊎◌}
use Rattle.std.specs.Prelude.{nat_eq}
use Rattle.std.specs.Borrow.{Bor}
use Rattle.std.proofs.lemmas.Bool.{cases_eq, eq-eqb, ne_eqb}
use Rattle.std.proofs.lemmas.List.{drop_more, drop_all, append-nil, take_at}
use Rattle.pal_text.specs.declared.statement.Ending.{Ending}
use Rattle.pal_text.specs.declared.statement.Ending.TheVariants.{Dollar, Pause, Bytes}
use Rattle.pal_text.specs.Parts.{IsIllegal}
use Rattle.pal_acts.specs.declared.act.Act.TheVariants as act
use Rattle.pal_acts.specs.declared.fault_code.FaultCode.TheVariants.{IllegalCharacter}
use Rattle.pal_acts.specs.Acts.{PlacedAct, placed, place}
use Rattle.pal_asm.specs.declared.number.Radix.{Radix}
use Rattle.pal_asm.specs.declared.number.Radix.TheVariants.{Octal}
use Rattle.pal_asm.specs.declared.reading.ReadingState.{ReadingState}
use Rattle.pal_asm.specs.declared.reading.Continuation.{Continuation}
use Rattle.pal_asm.specs.declared.reading.Continuation.TheVariants.{NextPart, NoPart}
use Rattle.pal_asm.specs.declared.statement.NumberedPart.{NumberedPart}
use Rattle.pal_asm.specs.Sources.{texts, TextLine, part_lines, PartDoes, Reads, no_part, broken, last_part, next_part}
use Rattle.pal_asm.specs.SourceInCode.{IsRead, Follows, Turns}

not_dollar : (e : Ending) → (e ≡ Pause) ⊎ (e ≡ Bytes) → e ≢ Dollar
not_dollar e (inl is) same = let both : Pause ≡ Dollar = sym is ∙ same in cc
not_dollar e (inr is) same = let both : Bytes ≡ Dollar = sym is ∙ same in cc

-- a part that was read up to where it ends
module _ (part : NumberedPart) (before : Radix) (old new : List PlacedAct) (reached : ReadingState) (old_lines new_lines : List TextLine) (is : IsRead part before old new reached)
    (lines_are : new_lines ≡ old_lines ++ part_lines part.number part.source.now reached.close) where
  does_before : (rest : List (List ℕ)) → part.last ≡ nat_eq (length rest) 0 → PartDoes part.number (nat_eq (length rest) 0) before part.source.now is.acts reached.radix reached.close
  does_before rest empty = let P : Bool → Type 0 = λ b. PartDoes part.number b before part.source.now is.acts reached.radix reached.close in subst P empty is.does

  pub read_last : reached.close.ending ≡ Dollar → Turns part.number before part.last part.source.now old new old_lines new_lines NoPart
  read_last dollar = record {
    more = is.acts;
    new_is = is.new_is;
    more_lines = part_lines part.number part.source.now reached.close;
    lines_are = lines_are;
    reads = λ rest acts lines empty follows.
        (let mine : List TextLine = part_lines part.number part.source.now reached.close in
        let all : is.acts ≡ is.acts ++ acts = sym (ap (λ l. is.acts ++ l) follows.0 ∙ append-nil is.acts) in
        let all_lines : mine ≡ mine ++ lines = sym (ap (λ l. mine ++ l) follows.1 ∙ append-nil mine) in
        let P : List PlacedAct → Type 0 = λ l. Reads part.number before (part.source.now ∷ rest) l (mine ++ lines) in
        let Q : List TextLine → Type 0 = λ l. Reads part.number before (part.source.now ∷ rest) is.acts l in
        subst P all (subst Q all_lines (last_part part.number before reached.radix part.source.now rest is.acts reached.close (does_before rest empty) dollar)));
  }

  pub read_on : (reached.close.ending ≡ Pause) ⊎ (reached.close.ending ≡ Bytes) → Turns part.number before part.last part.source.now old new old_lines new_lines (NextPart reached.radix)
  read_on ending = record {
    more = is.acts;
    new_is = is.new_is;
    more_lines = part_lines part.number part.source.now reached.close;
    lines_are = lines_are;
    reads = λ rest acts lines empty follows.
        next_part part.number before reached.radix part.source.now rest is.acts acts lines reached.close (does_before rest empty) (not_dollar reached.close.ending ending) follows;
  }

-- a part with a statement that has no form is that fault
pub refused : (n : ℕ) (r : Radix) (last : Bool) (source : List ℕ) (line : ℕ) (old more kept new : List PlacedAct) (lines : List TextLine) → IsIllegal source line → kept ≡ take (length old) (old ++ more)
    → new ≡ kept ++ placed (place n line) [] (act.Wrong IllegalCharacter) ∷ [] → Turns n r last source old new lines lines NoPart
refused n r last source line old more kept new lines is cut e = record {
  more = placed (place n line) [] (act.Wrong IllegalCharacter) ∷ [];
  new_is = e ∙ ap (λ l. l ++ placed (place n line) [] (act.Wrong IllegalCharacter) ∷ []) (cut ∙ take_at old more (length old) refl);
  more_lines = [];
  lines_are = sym (append-nil lines);
  reads = λ rest acts after empty follows.
      (let P : List PlacedAct → Type 0 = λ l. Reads n r (source ∷ rest) (placed (place n line) [] (act.Wrong IllegalCharacter) ∷ l) after in
      let Q : List TextLine → Type 0 = λ l. Reads n r (source ∷ rest) (placed (place n line) [] (act.Wrong IllegalCharacter) ∷ []) l in
      subst P (sym follows.0) (subst Q (sym follows.1) (broken n r source rest line is)));
}

below : (k n : ℕ) → k ≤ n → (k ≡ n → ⊥) → k < n
below k n h ne = omega arith

-- whether a part is the last one
pub last_here : (parts : List (Bor (List ℕ))) (k : ℕ) → k ≤ length parts → nat_eq k (length parts) ≡ nat_eq (length (texts (drop k parts))) 0
last_here parts k h = elim (cases_eq k (length parts)) [
  | inl e ↦ eq-eqb k (length parts) e ∙ sym (ap (λ l. nat_eq (length (texts l)) 0) (drop_all k parts (omega arith)))
  | inr ne ↦ ne_eqb k (length parts) ne ∙ sym (ap (λ l. nat_eq (length (texts l)) 0) (drop_more parts k (record { ref_ptr = (0, 0); now = [] }) (below k (length parts) h ne))
      ∙ ne_eqb (ℕ.suc (length (texts (drop (k + 1) parts)))) 0 (λ e. omega (arith, e)))
]

-- the first so many parts were read
abbrev pub Came : List (Bor (List ℕ)) → ℕ → Radix → List PlacedAct → List TextLine → Type 0
Came parts i r acts lines = (later : List PlacedAct) (more : List TextLine) → Reads (i + 1) r (texts (drop i parts)) later more → Reads 1 Octal (texts parts) (acts ++ later) (lines ++ more)

module _ (parts : List (Bor (List ℕ))) (i : ℕ) (d : Bor (List ℕ)) (r : Radix) (last : Bool) (old new : List PlacedAct) (old_lines new_lines : List TextLine) (h : i < length parts)
    (is_last : last ≡ nat_eq (i + 1) (length parts)) (came : Came parts i r old old_lines) where
  came_with : (turn : Continuation) (t : Turns (i + 1) r last (get_or parts i d).now old new old_lines new_lines turn) (later : List PlacedAct) (more : List TextLine) → Follows turn (i + 1 + 1) (texts (drop (i + 1) parts)) later more
      → Reads 1 Octal (texts parts) (new ++ later) (new_lines ++ more)
  came_with turn t later more follows =
      let rest : List (List ℕ) = texts (drop (i + 1) parts) in
      let read : Reads (i + 1) r ((get_or parts i d).now ∷ rest) (t.more ++ later) (t.more_lines ++ more) = t.reads rest later more (is_last ∙ last_here parts (i + 1) (omega arith)) follows in
      let P : List (List ℕ) → Type 0 = λ ps. Reads (i + 1) r ps (t.more ++ later) (t.more_lines ++ more) in
      let Q : List PlacedAct → Type 0 = λ l. Reads 1 Octal (texts parts) l (old_lines ++ (t.more_lines ++ more)) in
      let S : List TextLine → Type 0 = λ l. Reads 1 Octal (texts parts) (new ++ later) l in
      subst S (sym (append_assoc old_lines t.more_lines more) ∙ ap (λ l. l ++ more) (sym t.lines_are))
      (subst Q (sym (append_assoc old t.more later) ∙ ap (λ l. l ++ later) (sym t.new_is))
      (came (t.more ++ later) (t.more_lines ++ more) (subst P (sym (ap texts (drop_more parts i d h))) read)))

  pub ends_here : (turn : Continuation) → turn ≡ NoPart → Turns (i + 1) r last (get_or parts i d).now old new old_lines new_lines turn → Reads 1 Octal (texts parts) new new_lines
  ends_here turn is t =
      let Q : List PlacedAct → Type 0 = λ l. Reads 1 Octal (texts parts) l (new_lines ++ []) in
      let S : List TextLine → Type 0 = λ l. Reads 1 Octal (texts parts) new l in
      let P : Continuation → Type 0 = λ x. Follows x (i + 1 + 1) (texts (drop (i + 1) parts)) [] [] in
      subst S (append-nil new_lines) (subst Q (append-nil new) (came_with turn t [] [] (subst P (sym is) (refl, refl))))

  pub goes_on : (r' : Radix) (turn : Continuation) → turn ≡ NextPart r' → Turns (i + 1) r last (get_or parts i d).now old new old_lines new_lines turn → Came parts (i + 1) r' new new_lines
  goes_on r' turn is t later more next =
      let P : Continuation → Type 0 = λ x. Follows x (i + 1 + 1) (texts (drop (i + 1) parts)) later more in
      came_with turn t later more (subst P (sym is) next)

-- all parts were read
pub all_read : (parts : List (Bor (List ℕ))) (i : ℕ) (r : Radix) (acts : List PlacedAct) (lines : List TextLine) → length parts ≤ i → Came parts i r acts lines → Reads 1 Octal (texts parts) acts lines
all_read parts i r acts lines h came =
    let P : List (Bor (List ℕ)) → Type 0 = λ ps. Reads (i + 1) r (texts ps) [] [] in
    let Q : List PlacedAct → Type 0 = λ l. Reads 1 Octal (texts parts) l (lines ++ []) in
    let S : List TextLine → Type 0 = λ l. Reads 1 Octal (texts parts) acts l in
    subst S (append-nil lines) (subst Q (append-nil acts) (came [] [] (subst P (sym (drop_all i parts h)) (no_part (i + 1) r))))
