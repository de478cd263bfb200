-- A part has one reading, or one fault, and not both.
use Rattle.std.proofs.Common.{◌≡◌, ◌∙◌, sym, ap, refl, subst, ℕ, List, [], ◌∷◌, Option, Some, None, length, take}
use Rattle.pal_text.specs.declared.tokens.Token.{Token}
use Rattle.pal_text.specs.declared.statement.Statement.{Statement}
use Rattle.pal_text.specs.declared.statement.PartEnd.{PartEnd}
use Rattle.pal_text.specs.declared.statement.Ending.{Ending}
use Rattle.pal_text.specs.declared.lines.Line.{Line}
use Rattle.pal_text.specs.Lines.{all_lines}
use Rattle.pal_text.specs.Names.{part_tokens}
use Rattle.pal_text.specs.Parts.{IsPart, IsIllegal}
use Rattle.pal_text.specs.Statements.{Piece, own, Fills, closing, closed, pieces, Stand, ends, goes_on, Breaks, here, later}
use Rattle.pal_text.proofs.Readings.{one_said}

-- a piece is one statement
one_statement : (tokens : List Token) (p : Piece) (s t : Statement) → Fills tokens p s → Fills tokens p t → s ≡ t
one_statement tokens p s t f g =
    let e : (f.names ≡ g.names) × (f.said ≡ g.said) = one_said (own tokens p) f.names g.names f.said g.said f.reads g.reads in
    f.is ∙ (λ i. record { line = p.mark.line; first = p.first; last = p.last; tags = length (e.0 i); form = (e.1 i).form }) ∙ sym g.is

some_same : {X : Type 0} (x y : X) → Some x ≡ Some y → x ≡ y
some_same x y e = cc

none_some : {X : Type 0} (o : Option X) (x : X) → o ≡ None → o ≡ Some x → ⊥
none_some o x e f = let both : None ≡ Some x = sym e ∙ f in cc

-- after a statement a part ends, or goes on
module _ (tokens : List Token) (size : ℕ) where
  abbrev after : Piece → Statement → Option PartEnd
  after p s = closing size (own tokens p) p.mark s.form

  ends_not_on : (p : Piece) (s t : Statement) (c : PartEnd) → Fills tokens p s → Fills tokens p t → after p s ≡ Some c → after p t ≡ None → ⊥
  ends_not_on p s t c f g e h = none_some (after p t) c h (ap (after p) (sym (one_statement tokens p s t f g)) ∙ e)

  pub one_reading : (ps : List Piece) (ss ts : List Statement) (c d : PartEnd) → Stand tokens size ps ss c → Stand tokens size ps ts d → (ss ≡ ts) × (c ≡ d)
  one_reading ps ss ts c d (ends p qs s c' f e) (ends p' qs' t d' g h) =
      let same : s ≡ t = one_statement tokens p s t f g in
      (λ i. same i ∷ [], some_same c' d' (sym e ∙ ap (after p) same ∙ h))
  one_reading ps ss ts c d (ends p qs s c' f e) (goes_on p' qs' t us d' g h k) = absurd (ends_not_on p s t c' f g e h)
  one_reading ps ss ts c d (goes_on p qs s rs c' f e r) (ends p' qs' t d' g h) = absurd (ends_not_on p t s d' g f h e)
  one_reading ps ss ts c d (goes_on p qs s rs c' f e r) (goes_on p' qs' t us d' g h k) =
      let same : s ≡ t = one_statement tokens p s t f g in
      let more : (rs ≡ us) × (c' ≡ d') = one_reading qs rs us c' d' r k in
      (λ i. same i ∷ more.0 i, more.1)

  pub one_fault : (ps : List Piece) (m n : ℕ) → Breaks tokens size ps m → Breaks tokens size ps n → m ≡ n
  one_fault ps m n (here p qs h) (here p' qs' k) = refl
  one_fault ps m n (here p qs h) (later p' qs' s n' g k r) = absurd (h g.names g.said g.reads)
  one_fault ps m n (later p qs s m' f e r) (here p' qs' k) = absurd (k f.names f.said f.reads)
  one_fault ps m n (later p qs s m' f e r) (later p' qs' t n' g k q) = one_fault qs m' n' r q

  pub not_both : (ps : List Piece) (ss : List Statement) (c : PartEnd) (n : ℕ) → Stand tokens size ps ss c → Breaks tokens size ps n → ⊥
  not_both ps ss c n (ends p qs s c' f e) (here p' qs' k) = k f.names f.said f.reads
  not_both ps ss c n (ends p qs s c' f e) (later p' qs' t n' g h r) = ends_not_on p s t c' f g e h
  not_both ps ss c n (goes_on p qs s rs c' f e q) (here p' qs' k) = k f.names f.said f.reads
  not_both ps ss c n (goes_on p qs s rs c' f e q) (later p' qs' t n' g h r) = not_both qs rs c' n' q r

-- a reading is the only one
pub agrees : (source : List ℕ) (tokens tokens' : List Token) (ss ss' : List Statement) (lines lines' : List Line) (e e' : Ending) → IsPart source tokens ss lines e → IsPart source tokens' ss' lines' e' → (tokens ≡ tokens') × (ss ≡ ss') × (lines ≡ lines') × (e ≡ e')
agrees source tokens tokens' ss ss' lines lines' e e' h k =
    let same : tokens' ≡ tokens = k.tokens_are ∙ sym h.tokens_are in
    let P : List Token → Type 0 = λ ts. Stand ts (length source) (pieces 0 0 ts) ss' (closed e' k.stop) in
    let r : (ss ≡ ss') × (closed e h.stop ≡ closed e' k.stop) = one_reading tokens (length source) (pieces 0 0 tokens) ss ss' (closed e h.stop) (closed e' k.stop) h.statements_are (subst P same k.statements_are) in
    let stop_in : PartEnd → ℕ = λ c. c.stop in
    let ending_in : PartEnd → Ending = λ c. c.ending in
    (sym same, r.0, h.lines_are ∙ ap (λ n. all_lines (take n source)) (ap stop_in r.1) ∙ sym k.lines_are, ap ending_in r.1)

-- a part that has a reading has no fault
pub no_fault : (source : List ℕ) (tokens : List Token) (ss : List Statement) (lines : List Line) (e : Ending) (n : ℕ) → IsPart source tokens ss lines e → IsIllegal source n → ⊥
no_fault source tokens ss lines e n h k =
    let P : List Token → Type 0 = λ ts. Stand ts (length source) (pieces 0 0 ts) ss (closed e h.stop) in
    not_both (part_tokens source) (length source) (pieces 0 0 (part_tokens source)) ss (closed e h.stop) n (subst P h.tokens_are h.statements_are) k

pub one_line : (source : List ℕ) (m n : ℕ) → IsIllegal source m → IsIllegal source n → m ≡ n
one_line source m n h k = one_fault (part_tokens source) (length source) (pieces 0 0 (part_tokens source)) m n h k
