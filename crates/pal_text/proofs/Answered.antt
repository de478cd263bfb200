-- Each part has a reading, or a first line with a statement that has no form.
use Rattle.std.proofs.Common.{◌≡◌, ◌∙◌, sym, ap, refl, subst, ℕ, ◌+◌, List, [], ◌∷◌, ◌++◌, Bool, true, false, if◌then◌else◌, Option, Some, None, inl, inr, ◌⊎◌, length, take}
use Rattle.std.specs.Prelude.{reverse, map, nat_eq}
use Rattle.std.proofs.lemmas.Bool.{eq-eqb, cond_both}
use Rattle.std.proofs.lemmas.List.{reverse-append, length-reverse, map-append}
use Rattle.pal_text.specs.declared.tokens.Token.{Token}
use Rattle.pal_text.specs.declared.grammar.Form.{Form}
use Rattle.pal_text.specs.declared.grammar.Form.TheVariants as form
use Rattle.pal_text.specs.declared.grammar.Shape.{Shape}
use Rattle.pal_text.specs.declared.statement.Statement.{Statement}
use Rattle.pal_text.specs.declared.statement.Ending.{Ending}
use Rattle.pal_text.specs.declared.statement.Ending.TheVariants as ending
use Rattle.pal_text.specs.declared.statement.PartEnd.{PartEnd}
use Rattle.pal_text.specs.declared.lines.Line.{Line}
use Rattle.pal_text.specs.Tokens.{runs, is_end, counted, end_token}
use Rattle.pal_text.specs.Names.{named, part_tokens}
use Rattle.pal_text.specs.Lines.{all_lines}
use Rattle.pal_text.specs.Reading.{shape}
use Rattle.pal_text.specs.Statements.{is_dollar, Piece, piece, pieces, own, Fills, closed, closing, Stand, ends, goes_on, Breaks, here, later}
use Rattle.pal_text.specs.Parts.{IsPart, IsIllegal}
use Rattle.pal_text.specs.Laws.{EachPartIsAnswered}
use Rattle.pal_text.proofs.Cuts.{made, made_fills}
use Rattle.pal_text.proofs.Readings.{shape_none}

-- there are pieces, and the last one ends where so many bytes end
abbrev pub IsClosed : ℕ → List Piece → Type 0
IsClosed size [] = ⊥
IsClosed size (p ∷ []) = p.mark.start ≡ size
IsClosed size (p ∷ q ∷ ps) = IsClosed size (q ∷ ps)

closed_more : (size : ℕ) (p : Piece) (ps : List Piece) → IsClosed size ps → IsClosed size (p ∷ ps)
closed_more size p [] h = absurd h
closed_more size p (q ∷ ps) h = h

-- tokens whose last one ends a statement there make such pieces
pieces_closed : (size first at : ℕ) (ts : List Token) (m : Token) → is_end m.kind ≡ true → m.start ≡ size → IsClosed size (pieces first at (ts ++ m ∷ []))
pieces_closed size first at [] m e s = let P : Bool → Type 0 = λ b. IsClosed size (if b then piece first at m ∷ [] else []) in subst P (sym e) s
pieces_closed size first at (t ∷ ts) m e s =
    cond_both (is_end t.kind) (piece first at t ∷ pieces (at + 1) (at + 1) (ts ++ m ∷ [])) (pieces first (at + 1) (ts ++ m ∷ [])) (λ ps. IsClosed size ps)
    (λ is. closed_more size (piece first at t) (pieces (at + 1) (at + 1) (ts ++ m ∷ [])) (pieces_closed size (at + 1) (at + 1) ts m e s))
    (λ is. pieces_closed size first (at + 1) ts m e s)

-- and so do those of a part
pub part_closed : (source : List ℕ) → IsClosed (length source) (pieces 0 0 (part_tokens source))
part_closed source =
    let before : List Token = counted true (runs (reverse source)) in
    let last : Token = end_token (reverse source) in
    let is : part_tokens source ≡ map (named source) (reverse before) ++ named source last ∷ [] =
    ap (map (named source)) (reverse-append (last ∷ []) before) ∙ map-append (named source) (reverse before) (last ∷ []) in
    let P : List Token → Type 0 = λ ts. IsClosed (length source) (pieces 0 0 ts) in
    subst P (sym is) (pieces_closed (length source) 0 0 (map (named source) (reverse before)) (named source last) refl (length-reverse source))

-- a part doesn't go on after its last byte
by_tests : (size : ℕ) (d : PartEnd) (dollar last : Bool) → last ≡ true → (if dollar then Some d else (if last then Some (closed ending.Bytes size) else None)) ≡ None → ⊥
by_tests size d true last h e = cc
by_tests size d false true h e = cc
by_tests size d false false h e = cc

closes_there : (size : ℕ) (ts : List Token) (mark : Token) (f : Form) → mark.start ≡ size → closing size ts mark f ≡ None → ⊥
closes_there size ts mark form.Pause h e = cc
closes_there size ts mark _ h e = by_tests size (closed ending.Dollar mark.end) (is_dollar mark.kind) (nat_eq mark.start size) (eq-eqb mark.start size h) e

module _ (tokens : List Token) (size : ℕ) where
  -- pieces are statements up to one by which the part ends, or there is a first one that is none
  abbrev pub Answers : List Piece → Type 0
  Answers ps = ((ss : List Statement) × (c : PartEnd) × Stand tokens size ps ss c) ⊎ ((line : ℕ) × Breaks tokens size ps line)

  after_one : (p : Piece) (ps : List Piece) (s : Statement) → Fills tokens p s → closing size (own tokens p) p.mark s.form ≡ None → Answers ps → Answers (p ∷ ps)
  after_one p ps s f e (inl r) = inl (s ∷ r.0, r.1, goes_on p ps s r.0 r.1 f e r.2)
  after_one p ps s f e (inr r) = inr (r.0, later p ps s r.0 f e r.1)

  by_rest : (p : Piece) (ps : List Piece) (s : Statement) → Fills tokens p s → closing size (own tokens p) p.mark s.form ≡ None → IsClosed size (p ∷ ps) → (IsClosed size ps → Answers ps) → Answers (p ∷ ps)
  by_rest p [] s f e h rest = absurd (closes_there size (own tokens p) p.mark s.form h e)
  by_rest p (q ∷ ps) s f e h rest = after_one p (q ∷ ps) s f e (rest h)

  by_closing : (p : Piece) (ps : List Piece) (s : Statement) → Fills tokens p s → (o : Option PartEnd) → closing size (own tokens p) p.mark s.form ≡ o → IsClosed size (p ∷ ps) → (IsClosed size ps → Answers ps) → Answers (p ∷ ps)
  by_closing p ps s f (Some c) e h rest = inl (s ∷ [], c, ends p ps s c f e)
  by_closing p ps s f None e h rest = by_rest p ps s f e h rest

  by_shape : (p : Piece) (ps : List Piece) (o : Option Shape) → shape 0 (own tokens p) ≡ o → IsClosed size (p ∷ ps) → (IsClosed size ps → Answers ps) → Answers (p ∷ ps)
  by_shape p ps None e h rest = inr (p.mark.line, here p ps (shape_none (own tokens p) e))
  by_shape p ps (Some s) e h rest =
      let t : Statement = made p.first p.last p.mark s in
      by_closing p ps t (made_fills tokens p.first p.last p.mark s e) (closing size (own tokens p) p.mark t.form) refl h rest

  pub answered : (ps : List Piece) → IsClosed size ps → Answers ps
  answered [] h = absurd h
  answered (p ∷ ps) h = by_shape p ps (shape 0 (own tokens p)) refl h (answered ps)

part_by : (source : List ℕ) → Answers (part_tokens source) (length source) (pieces 0 0 (part_tokens source))
    → ((tokens : List Token) × (statements : List Statement) × (lines : List Line) × (e : Ending) × IsPart source tokens statements lines e) ⊎ ((line : ℕ) × IsIllegal source line)
part_by source (inl r) = inl (part_tokens source, r.0, all_lines (take r.1.stop source), r.1.ending, record { stop = r.1.stop; tokens_are = refl; statements_are = r.2; lines_are = refl })
part_by source (inr r) = inr r

pub each_part_is_answered : EachPartIsAnswered
each_part_is_answered source = part_by source (answered (part_tokens source) (length source) (pieces 0 0 (part_tokens source)) (part_closed source))
