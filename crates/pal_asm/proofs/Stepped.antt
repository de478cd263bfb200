-- The statements of a part, read one after another.
use Rattle.std.proofs.Common.{◌≡◌, ◌∙◌, sym, ap, subst, ℕ, ◌+◌, List, ◌∷◌, ◌++◌, append_assoc, length, Some, None, Option}
use Rattle.pal_text.specs.declared.tokens.Token.{Token}
use Rattle.pal_text.specs.declared.statement.Statement.{Statement}
use Rattle.pal_text.specs.declared.statement.PartEnd.{PartEnd}
use Rattle.pal_text.specs.declared.reader.DelimitedStatement.{DelimitedStatement}
use Rattle.pal_text.specs.declared.fault.StatementFault.{StatementFault}
use Rattle.pal_text.specs.declared.fault.StatementFault.TheVariants.{Illegal, NoMemory}
use Rattle.pal_text.specs.Grammar.{IsStatement}
use Rattle.pal_text.specs.Names.{part_tokens}
use Rattle.pal_text.specs.Parts.{IsIllegal}
use Rattle.pal_text.specs.Progress.{Progress}
use Rattle.pal_text.specs.Readers.{rest, IsNext, StopsAt, BreaksNext}
use Rattle.pal_text.specs.Statements.{Piece, piece, own, Fills, closing, Breaks, here, later}
use Rattle.pal_acts.specs.Acts.{PlacedAct, place}
use Rattle.pal_asm.specs.declared.number.Radix.{Radix}
use Rattle.pal_asm.specs.declared.statement.NumberedPart.{NumberedPart}
use Rattle.pal_asm.specs.Numbers.{base, radix_after}
use Rattle.pal_asm.specs.Acts.{statement_acts, Does, ends, goes_on}
use Rattle.pal_asm.specs.Sources.{PartDoes}
use Rattle.pal_asm.specs.SourceInCode.{Says, StopsPart}

-- the acts so far: where the part has ended so, all of them, and else those of the pieces that are left follow
abbrev Came : NumberedPart → Radix → Radix → ℕ → Option PartEnd → List PlacedAct → Type 0
Came part before r n None acts =
    ((more : List PlacedAct) (r' : Radix) (c : PartEnd) → Does part.number part.last part.source.now r (rest part.source.now n) more r' c → PartDoes part.number part.last before part.source.now (acts ++ more) r' c)
    × ((line : ℕ) → Breaks (part_tokens part.source.now) (length part.source.now) (rest part.source.now n) line → IsIllegal part.source.now line)
Came part before r n (Some c) acts = PartDoes part.number part.last before part.source.now acts r c

-- the statements of the first n tokens were read, and what they do is kept
pub record Stepped (part : NumberedPart) (before radix : Radix) (old new : List PlacedAct) (n : ℕ) (close : Option PartEnd) : Type 0 where
  pub acts : List PlacedAct
  pub came : Came part before radix n close acts
  pub new_is : new ≡ old ++ acts

-- what was found, as what its tokens say
abbrev pub says_by : (source : List ℕ) (n m : ℕ) (found : DelimitedStatement) (mine seen : List Token) (after : Option PartEnd) → IsNext source n found mine m after → seen ≡ mine → Says seen found.statement
says_by source n m found mine seen after next is = record {
  names = next.fills.names;
  said = next.fills.said;
  reads = subst (λ ts. IsStatement ts next.fills.names next.fills.said) (sym next.own_is ∙ sym is) next.fills.reads;
  tags = ap (λ (s : Statement). s.tags) next.fills.is;
  form = ap (λ (s : Statement). s.form) next.fills.is;
}

came_by : (part : NumberedPart) (before r : Radix) (n m : ℕ) (p : Piece) (s : Statement) (f : Fills (part_tokens part.source.now) p s) (acts : List PlacedAct) (o : Option PartEnd) → p ∷ rest part.source.now m ≡ rest part.source.now n
    → closing (length part.source.now) (own (part_tokens part.source.now) p) p.mark s.form ≡ o → Came part before r n None acts
    → Came part before (radix_after r f.said.form) m o (acts ++ statement_acts (place part.number p.mark.line) (base r) part.last part.source.now f.names f.said)
came_by part before r n m p s f acts (Some c) same e g =
    let source : List ℕ = part.source.now in
    let mine : List PlacedAct = statement_acts (place part.number p.mark.line) (base r) part.last source f.names f.said in
    let closes : closing (length source) (own (part_tokens source) p) p.mark f.said.form ≡ Some c = ap (closing (length source) (own (part_tokens source) p) p.mark) (sym (ap (λ (s : Statement). s.form) f.is)) ∙ e in
    let P : List Piece → Type 0 = λ ps. Does part.number part.last source r ps mine (radix_after r f.said.form) c in
    g.0 mine (radix_after r f.said.form) c (subst P same (ends r p (rest source m) f.names f.said c f.reads closes))
came_by part before r n m p s f acts None same e g =
    let source : List ℕ = part.source.now in
    let mine : List PlacedAct = statement_acts (place part.number p.mark.line) (base r) part.last source f.names f.said in
    let closes : closing (length source) (own (part_tokens source) p) p.mark f.said.form ≡ None = ap (closing (length source) (own (part_tokens source) p) p.mark) (sym (ap (λ (s : Statement). s.form) f.is)) ∙ e in (
      λ more r' c h.
          (let P : List Piece → Type 0 = λ ps. Does part.number part.last source r ps (mine ++ more) r' c in
          let Q : List PlacedAct → Type 0 = λ l. PartDoes part.number part.last before source l r' c in
          subst Q (sym (append_assoc acts mine more)) (g.0 (mine ++ more) r' c (subst P same (goes_on r r' p (rest source m) f.names f.said more c f.reads closes h)))),
      λ line h.
          (let P : List Piece → Type 0 = λ ps. Breaks (part_tokens source) (length source) ps line in
          g.1 line (subst P same (later p (rest source m) s line f e h))),
    )

-- one statement more
pub stepped_more : (part : NumberedPart) (before r r' : Radix) (old mid new : List PlacedAct) (n m : ℕ) (close after : Option PartEnd) (found : DelimitedStatement) (mine : List Token) → Stepped part before r old mid n close
    → close ≡ None → (next : IsNext part.source.now n found mine m after)
    → new ≡ mid ++ statement_acts (place part.number found.statement.line) (base r) part.last part.source.now next.fills.names next.fills.said → r' ≡ radix_after r found.statement.form
    → Stepped part before r' old new m after
stepped_more part before r r' old mid new n m close after found mine st going next kept turns =
    let source : List ℕ = part.source.now in
    let p : Piece = piece n found.statement.last found.mark in
    let X : ℕ → List PlacedAct = λ line. statement_acts (place part.number line) (base r) part.last source next.fills.names next.fills.said in
    let R : Option PartEnd → Type 0 = λ o. Came part before r n o st.acts in
    let S : Radix → Type 0 = λ q. Came part before q m after (st.acts ++ X found.mark.line) in
    let closes : closing (length source) (own (part_tokens source) p) found.mark found.statement.form ≡ after = ap (λ l. closing (length source) l found.mark found.statement.form) (sym next.own_is) ∙ sym next.close_is in
    let radix_is : r' ≡ radix_after r next.fills.said.form = turns ∙ ap (λ (s : Statement). radix_after r s.form) next.fills.is in
    record {
      acts = st.acts ++ X found.mark.line;
      came = subst S (sym radix_is) (came_by part before r n m p found.statement next.fills st.acts after (sym next.rest_is) closes (subst R going st.came));
      new_is = kept ∙ (λ i. st.new_is i ++ X (next.fills.is i).line) ∙ append_assoc old st.acts (X found.mark.line);
    }

-- the next statement has no form
stuck : (part : NumberedPart) (before r : Radix) (old new : List PlacedAct) (n : ℕ) (close : Option PartEnd) (fault : StatementFault) → Stepped part before r old new n close → close ≡ None → StopsAt part.source.now n fault
    → StopsPart part.source.now old new fault
stuck part before r old new n close (Illegal line) st going b =
    let source : List ℕ = part.source.now in
    let R : Option PartEnd → Type 0 = λ o. Came part before r n o st.acts in
    let P : List Piece → Type 0 = λ ps. Breaks (part_tokens source) (length source) ps line in
    let p : Piece = b.0 in
    let Q : ℕ → Type 0 = λ k. Breaks (part_tokens source) (length source) (p ∷ rest source (p.last + 1)) k in
    let came = subst R going st.came in
    (came.1 line (subst P (sym b.1) (subst Q (sym b.3) (here p (rest source (p.last + 1)) b.2))), (st.acts, st.new_is))
stuck part before r old new n close NoMemory st going b = tt

pub stuck_at : (part : NumberedPart) (before r : Radix) (old new : List PlacedAct) (at : Progress) (fault : StatementFault) → Stepped part before r old new at.count at.close → at.source ≡ part.source.now → BreaksNext at fault
    → StopsPart part.source.now old new fault
stuck_at part before r old new at fault st same h = let Q : List ℕ → Type 0 = λ s. StopsAt s at.count fault in stuck part before r old new at.count at.close fault st h.0 (subst Q same h.1)
