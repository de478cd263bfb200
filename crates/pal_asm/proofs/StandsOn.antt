-- The statement of a word stands on a line of its part.
use Rattle.std.proofs.Common.{◌≡◌, ◌≢◌, ◌∙◌, sym, ap, refl, subst, ℕ, ◌+◌, ◌-◌, ◌≤◌, List, [], ◌∷◌, ◌++◌, append_assoc, arith, Bool, true, false, if◌then◌else◌, Option, Some, None, inl, inr, ◌⊎◌, length, length-append, take, drop}
use Rattle.std.specs.Prelude.{slice_range, reverse, nat_eq}
use Rattle.std.specs.List.{AllByRecursion}
use Rattle.std.proofs.lemmas.Bool.{cond_both}
use Rattle.std.proofs.lemmas.List.{length-reverse}
use Rattle.std.proofs.Math.Seq.{take-append_seam, drop-append_seam, take-length}
use Rattle.pal_text.specs.declared.tokens.TokenKind.{TokenKind}
use Rattle.pal_text.specs.declared.tokens.TokenKind.TheVariants as kind
use Rattle.pal_text.specs.declared.tokens.Token.{Token}
use Rattle.pal_text.specs.declared.grammar.Form.{Form}
use Rattle.pal_text.specs.declared.grammar.Form.TheVariants as form
use Rattle.pal_text.specs.declared.statement.PartEnd.{PartEnd}
use Rattle.pal_text.specs.declared.statement.Ending.TheVariants as ending
use Rattle.pal_text.specs.Grammar.{is_expression, Said, IsStatement, nothing, origin, assign, assign_direction, decimal, octal, pause, word, tagged}
use Rattle.pal_text.specs.Names.{part_tokens}
use Rattle.pal_text.specs.Tokens.{is_end}
use Rattle.pal_text.specs.Statements.{is_dollar, Piece, piece, pieces, own, last_end, closed, closing}
use Rattle.pal_text.specs.Lines as text
use Rattle.pal_text.specs.Lines.{all_lines}
use Rattle.pal_acts.specs.Acts.{PlacedAct}
use Rattle.pal_asm.specs.declared.number.Radix.{Radix}
use Rattle.pal_asm.specs.Numbers.{radix_after}
use Rattle.pal_asm.specs.Acts.{Does, ends, goes_on}
use Rattle.pal_asm.proofs.Climbs.{Marks}
use Rattle.pal_asm.proofs.Lined.{lined, lined_all, is_stop, Chain, part_chain}

-- a word and PAUSE have tokens
has_tokens : (ts tags : List Token) (said : Said) → IsStatement ts tags said → (said.form ≡ form.Word) ⊎ (said.form ≡ form.Pause) → ts ≢ []
has_tokens ts tags said nothing (inl e) none = let both : form.Empty ≡ form.Word = e in cc
has_tokens ts tags said nothing (inr e) none = let both : form.Empty ≡ form.Pause = e in cc
has_tokens ts tags said (origin t e' is h) e none = cc
has_tokens ts tags said (assign t u e' is equals h) e none = cc
has_tokens ts tags said (assign_direction t u e' is equals h) e none = cc
has_tokens ts tags said (decimal t is) e none = cc
has_tokens ts tags said (octal t is) e none = cc
has_tokens ts tags said (pause t is) e none = cc
has_tokens ts tags said (word e' h) e none = let bad : false ≡ true = sym (ap is_expression none) ∙ h in cc
has_tokens ts tags said (tagged t u own_tokens more q name comma s) e none = cc

-- the last of some tokens is on this line, and the line is there
abbrev pub Lasts : (ℕ → ℕ) → ℕ → List Token → Type 0
Lasts L m [] = Unit {0}
Lasts L m (q ∷ []) = (q.line ≡ m) × (m ≤ L q.end)
Lasts L m (q ∷ r ∷ ts) = Lasts L m (r ∷ ts)

last_counts : (L : ℕ → ℕ) (m n : ℕ) (ts : List Token) → Lasts L m ts → ts ≢ [] → m ≤ L (last_end n ts)
last_counts L m n [] h some = absurd (some refl)
last_counts L m n (q ∷ []) h some = h.1
last_counts L m n (q ∷ r ∷ ts) h some = last_counts L m q.end (r ∷ ts) h (λ e. cc)

abbrev Inner : List Token → Type 0
Inner ts = AllByRecursion (λ t. is_end t.kind ≡ false) ts

-- what ends no statement is no stop either
no_stop : (k : TokenKind) → is_end k ≡ false → is_stop k ≡ false
no_stop kind.End h = absurd (let both : true ≡ false = h in cc)
no_stop _ h = refl

lasts_by : (L : ℕ → ℕ) (xs : List Token) (t : Token) (ts : List Token) → Inner xs → Chain L (xs ++ t ∷ ts) → Lasts L t.line xs
lasts_by L [] t ts i c = tt
lasts_by L (q ∷ []) t ts i c =
    let link : q.line ≡ t.line = c.2.1 i.0 in
    (link, omega (arith, link, c.1 (no_stop q.kind i.0)))
lasts_by L (q ∷ r ∷ xs) t ts i c = lasts_by L (r ∷ xs) t ts i.1 c.3

chain_after : (L : ℕ → ℕ) (xs ts : List Token) → Chain L (xs ++ ts) → Chain L ts
chain_after L [] ts c = c
chain_after L (x ∷ xs) ts c = chain_after L xs ts c.3

inner_more : (xs : List Token) (t : Token) → Inner xs → is_end t.kind ≡ false → Inner (xs ++ t ∷ [])
inner_more [] t i h = (h, tt)
inner_more (x ∷ xs) t i h = (i.0, inner_more xs t i.1 h)

-- a piece whose tokens and mark are on one line, which is there
pub record Fair (L : ℕ → ℕ) (tokens : List Token) (p : Piece) : Type 0 where
  pub lasts : Lasts L p.mark.line (own tokens p)
  pub positive : 1 ≤ p.mark.line
  pub dollar : is_dollar p.mark.kind ≡ true → p.mark.line ≤ L p.mark.end

dollar_no_stop : (k : TokenKind) → is_dollar k ≡ true → is_stop k ≡ false
dollar_no_stop kind.Dollar h = refl
dollar_no_stop _ h = cc

own_is : (tokens b xs rest : List Token) (first at : ℕ) → tokens ≡ b ++ (xs ++ rest) → first ≡ length b → at ≡ length b + length xs → slice_range tokens first at ≡ xs
own_is tokens b xs rest first at e f a =
    let size : at - first ≡ length xs = omega (arith, f, a) in
    ap (λ l. take (at - first) (drop first l)) e ∙ ap (λ n. take (at - first) (drop n (b ++ (xs ++ rest)))) f
    ∙ ap (take (at - first)) (drop-append_seam b (xs ++ rest)) ∙ ap (λ n. take n (xs ++ rest)) size ∙ take-append_seam xs rest

pieces_fair : (L : ℕ → ℕ) (tokens b xs ts : List Token) (first at : ℕ) → tokens ≡ b ++ (xs ++ ts) → first ≡ length b → at ≡ length b + length xs → Inner xs → Chain L (xs ++ ts)
    → AllByRecursion (Fair L tokens) (pieces first at ts)
pieces_fair L tokens b xs [] first at e f a i c = tt
pieces_fair L tokens b xs (t ∷ ts) first at e f a i c =
    cond_both (is_end t.kind) (piece first at t ∷ pieces (at + 1) (at + 1) ts) (pieces first (at + 1) ts) (λ ps. AllByRecursion (Fair L tokens) ps)
    (λ stop.
    (let Q : List Token → Type 0 = λ l. Lasts L t.line l in
    let mine : slice_range tokens first at ≡ xs = own_is tokens b xs (t ∷ ts) first at e f a in
    let after : Chain L (t ∷ ts) = chain_after L xs (t ∷ ts) c in
    let next : tokens ≡ (b ++ (xs ++ t ∷ [])) ++ ts = e ∙ ap (λ l. b ++ l) (sym (append_assoc xs (t ∷ []) ts)) ∙ sym (append_assoc b (xs ++ t ∷ []) ts) in
    let size : at + 1 ≡ length (b ++ (xs ++ t ∷ [])) = omega (arith, a, length-append b (xs ++ t ∷ []), length-append xs (t ∷ [])) in (
      record { lasts = subst Q (sym mine) (lasts_by L xs t ts i c); positive = after.0; dollar = λ d. after.1 (dollar_no_stop t.kind d) },
      pieces_fair L tokens (b ++ (xs ++ t ∷ [])) [] ts (at + 1) (at + 1) next size (omega (arith, size)) tt after.3,
    )))
    (λ other.
    (let same : xs ++ t ∷ ts ≡ (xs ++ t ∷ []) ++ ts = sym (append_assoc xs (t ∷ []) ts) in
    let C : List Token → Type 0 = λ l. Chain L l in
    pieces_fair L tokens b (xs ++ t ∷ []) ts first (at + 1) (e ∙ ap (λ l. b ++ l) same) f (omega (arith, a, length-append xs (t ∷ []))) (inner_more xs t i other) (subst C same c)))

-- ---- statements

-- a part ends by its last byte, or after this line
abbrev pub Stopped : (ℕ → ℕ) → ℕ → ℕ → PartEnd → Type 0
Stopped L size n c = (c.stop ≡ size) ⊎ (n ≤ L c.stop)

abbrev Bound : (ℕ → ℕ) → ℕ → ℕ → Option PartEnd → Type 0
Bound L size m None = Unit {0}
Bound L size m (Some d) = Stopped L size m d

dollar_bound : (L : ℕ → ℕ) (size m stop : ℕ) (b : Bool) (o : Option PartEnd) → (b ≡ true → m ≤ L stop) → Bound L size m o → Bound L size m (if b then Some (closed ending.Dollar stop) else o)
dollar_bound L size m stop true o h k = inr (h refl)
dollar_bound L size m stop false o h k = k

bytes_bound : (L : ℕ → ℕ) (size m : ℕ) (b : Bool) → Bound L size m (if b then Some (closed ending.Bytes size) else None)
bytes_bound L size m true = inl refl
bytes_bound L size m false = tt

closing_bound : (L : ℕ → ℕ) (size : ℕ) (ts : List Token) (mark : Token) (f : Form) → (f ≡ form.Pause → ts ≢ []) → Lasts L mark.line ts → (is_dollar mark.kind ≡ true → mark.line ≤ L mark.end) → Bound L size mark.line (closing size ts mark f)
closing_bound L size ts mark form.Pause some lasts d = inr (last_counts L mark.line mark.start ts lasts (some refl))
closing_bound L size ts mark _ some lasts d =
    dollar_bound L size mark.line mark.end (is_dollar mark.kind) (if nat_eq mark.start size then Some (closed ending.Bytes size) else None) d (bytes_bound L size mark.line (nat_eq mark.start size))

-- the lines of the first so many bytes
abbrev pub lines_to : List ℕ → ℕ → ℕ
lines_to source stop = length (all_lines (take stop source))

pub lines_to_is : (source : List ℕ) (stop : ℕ) → lined source stop ≡ lines_to source stop
lines_to_is source stop = sym (length-reverse (text.lines (reverse (take stop source))))

module _ (source : List ℕ) where
  abbrev L : ℕ → ℕ
  L = lined source

  abbrev pub Fairs : List Piece → Type 0
  Fairs ps = AllByRecursion (Fair L (part_tokens source)) ps

  pub part_fair : Fairs (pieces 0 0 (part_tokens source))
  part_fair = pieces_fair L (part_tokens source) [] [] (part_tokens source) 0 0 refl refl refl tt (part_chain source)

  stopped_lower : (m n : ℕ) (c : PartEnd) → m ≤ n → Stopped L (length source) n c → Stopped L (length source) m c
  stopped_lower m n c h (inl e) = inl e
  stopped_lower m n c h (inr k) = inr (omega arith)

  bound_by : (m : ℕ) (o : Option PartEnd) (c : PartEnd) → Bound L (length source) m o → o ≡ Some c → Stopped L (length source) m c
  bound_by m o c h e = let P : Option PartEnd → Type 0 = λ x. Bound L (length source) m x in subst P e h

  -- the lines up to the end of a part go to that of each of its pieces, if it doesn't end by its last byte
  pub stops : (n : ℕ) (last : Bool) (r r' : Radix) (l : ℕ) (ps : List Piece) (acts : List PlacedAct) (c : PartEnd) → Fairs ps → Marks l ps → Does n last source r ps acts r' c → Stopped L (length source) l c
  stops n last r r' l ps acts c fair marks (ends q p qs tags said d reads e) =
      let mine : List Token = own (part_tokens source) p in
      stopped_lower l p.mark.line d marks.0 (bound_by p.mark.line (closing (length source) mine p.mark said.form) d
      (closing_bound L (length source) mine p.mark said.form (λ is. has_tokens mine tags said reads (inr is)) fair.0.lasts fair.0.dollar) e)
  stops n last r r' l ps acts c fair marks (goes_on q q' p qs tags said more d reads e h) =
      stopped_lower l p.mark.line d marks.0 (stops n last (radix_after q said.form) q' p.mark.line qs more d fair.1 marks.1 h)

  -- a word is on a line of the bytes up to there
  pub on_line : (p : Piece) (tags : List Token) (said : Said) (c : PartEnd) → Fair L (part_tokens source) p → IsStatement (own (part_tokens source) p) tags said → Stopped L (length source) p.mark.line c → said.form ≡ form.Word
      → (1 ≤ p.mark.line) × (p.mark.line ≤ lines_to source c.stop)
  on_line p tags said c fair reads (inl e) w =
      let mine : List Token = own (part_tokens source) p in
      let own_line : p.mark.line ≤ L (last_end 0 mine) = last_counts L p.mark.line 0 mine fair.lasts (has_tokens mine tags said reads (inl w)) in
      let top : L (last_end 0 mine) ≤ L (length source) = (let P : List ℕ → Type 0 = λ l. L (last_end 0 mine) ≤ length (text.lines (reverse l)) in subst P (sym (take-length source)) (lined_all source (last_end 0 mine))) in
      (fair.positive, omega (arith, own_line, top, ap L e, lines_to_is source c.stop))
  on_line p tags said c fair reads (inr k) w = (fair.positive, omega (arith, k, lines_to_is source c.stop))
