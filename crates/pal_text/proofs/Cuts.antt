-- The statements of a part, piece by piece.
use Rattle.std.proofs.Common.{◌≡◌, ◌∙◌, sym, ap, refl, subst, ℕ, suc, ◌+◌, ◌-◌, ◌<◌, ◌≤◌, List, [], ◌∷◌, ◌++◌, true, if◌then◌else◌, Option, Some, None, inl, inr, arith, length, take, drop, append_assoc, length-drop}
use Rattle.std.specs.Prelude.{slice_range, Result, Ok, Err, OnOk, IfErr, is_ok}
use Rattle.std.specs.Result.{IsErrAnd}
use Rattle.std.specs.List.{AllByRecursion}
use Rattle.std.proofs.lemmas.Bool.{cases_Bool}
use Rattle.std.proofs.lemmas.List.{length-take-le, take-append-drop}
use Rattle.std.proofs.Math.Seq.{take-append-add}
use Rattle.pal_text.specs.declared.tokens.Token.{Token}
use Rattle.pal_text.specs.declared.grammar.Shape.{Shape}
use Rattle.pal_text.specs.declared.statement.Statement.{Statement}
use Rattle.pal_text.specs.declared.statement.PartEnd.{PartEnd}
use Rattle.pal_text.specs.declared.reader.DelimitedStatement.{DelimitedStatement}
use Rattle.pal_text.specs.declared.reader.PartItem.{PartItem}
use Rattle.pal_text.specs.declared.reader.PartItem.TheVariants.{End}
use Rattle.pal_text.specs.declared.reader.PartItem.TheVariants as found_next
use Rattle.pal_text.specs.declared.fault.StatementFault.{StatementFault}
use Rattle.pal_text.specs.declared.fault.StatementFault.TheVariants.{Illegal, NoMemory}
use Rattle.pal_text.specs.Faults.{fault_of}
use Rattle.pal_text.specs.Names.{part_tokens}
use Rattle.pal_text.specs.Order.{IsPlaced}
use Rattle.pal_text.specs.Parts.{past, IsIllegal, IsFault}
use Rattle.pal_text.specs.Reading.{shape}
use Rattle.pal_text.specs.Progress.{Progress}
use Rattle.pal_text.specs.Readers.{rest, IsNext, Finds, IsBroken, StopsAt, BreaksNext}
use Rattle.pal_text.specs.Tokens.{is_end}
use Rattle.pal_text.specs.Statements.{Piece, piece, pieces, own, Fills, closing, Stand, ends, goes_on, Breaks, here, later}
use Rattle.pal_text.proofs.Readings.{IsRead, shape_sound}
use Rattle.pal_text.proofs.Rises.{all_append}

-- the pieces that are left, where the tokens before the place `at` were read and the piece there begins at `first`
abbrev pub left : List Token → ℕ → ℕ → List Piece
left tokens first at = pieces first at (drop at tokens)

-- the statements so far: where the part has ended so, all of them, and else those that are left follow
abbrev pub Reached : List Token → ℕ → ℕ → Option PartEnd → List Statement → Type 0
Reached tokens size n None statements =
    ((ss : List Statement) (c : PartEnd) → Stand tokens size (left tokens n n) ss c → Stand tokens size (pieces 0 0 tokens) (statements ++ ss) c)
    × ((line : ℕ) → Breaks tokens size (left tokens n n) line → Breaks tokens size (pieces 0 0 tokens) line)
Reached tokens size n (Some c) statements = Stand tokens size (pieces 0 0 tokens) statements c

-- what the code makes of a piece
abbrev pub made : ℕ → ℕ → Token → Shape → Statement
made first at t s = record { line = t.line; first = first; last = at; tags = s.tags; form = s.form }

pub made_fills : (tokens : List Token) (first at : ℕ) (t : Token) (s : Shape) → shape 0 (slice_range tokens first at) ≡ Some s → Fills tokens (piece first at t) (made first at t s)
made_fills tokens first at t s h =
    let r : IsRead (slice_range tokens first at) s = shape_sound (slice_range tokens first at) s h in
    record { names = r.names; said = r.said; reads = r.reads; is = λ i. record { line = t.line; first = first; last = at; tags = r.tags i; form = r.form i } }

-- one statement more
reached_by : (tokens : List Token) (size n m : ℕ) (p : Piece) (s : Statement) (statements : List Statement) (o : Option PartEnd) → p ∷ left tokens m m ≡ left tokens n n → Fills tokens p s → closing size (own tokens p) p.mark s.form ≡ o
    → Reached tokens size n None statements → Reached tokens size m o (statements ++ s ∷ [])
reached_by tokens size n m p s statements (Some c) same fills e r =
    let P : List Piece → Type 0 = λ ps. Stand tokens size ps (s ∷ []) c in
    r.0 (s ∷ []) c (subst P same (ends p (left tokens m m) s c fills e))
reached_by tokens size n m p s statements None same fills e r = (
  λ ss c after.
      (let P : List Piece → Type 0 = λ ps. Stand tokens size ps (s ∷ ss) c in
      let Q : List Statement → Type 0 = λ all. Stand tokens size (pieces 0 0 tokens) all c in
      subst Q (sym (append_assoc statements (s ∷ []) ss)) (r.0 (s ∷ ss) c (subst P same (goes_on p (left tokens m m) s ss c fills e after)))),
  λ line after.
      (let P : List Piece → Type 0 = λ ps. Breaks tokens size ps line in
      r.1 line (subst P same (later p (left tokens m m) s line fills e after))),
)

pub reached_next : (source : List ℕ) (n m : ℕ) (found : DelimitedStatement) (mine : List Token) (close after : Option PartEnd) (statements : List Statement) → close ≡ None → IsNext source n found mine m after
    → Reached (part_tokens source) (length source) n close statements → Reached (part_tokens source) (length source) m after (statements ++ found.statement ∷ [])
reached_next source n m found mine close after statements going next r =
    let tokens : List Token = part_tokens source in
    let p : Piece = piece n found.statement.last found.mark in
    let R : Option PartEnd → Type 0 = λ o. Reached tokens (length source) n o statements in
    reached_by tokens (length source) n m p found.statement statements after (sym next.rest_is) next.fills
    (ap (λ l. closing (length source) l found.mark found.statement.form) (sym next.own_is) ∙ sym next.close_is) (subst R going r)

-- the part has ended
pub stands_end : (source : List ℕ) (n : ℕ) (close : Option PartEnd) (statements : List Statement) (c : PartEnd) → close ≡ Some c → Reached (part_tokens source) (length source) n close statements
    → Stand (part_tokens source) (length source) (pieces 0 0 (part_tokens source)) statements c
stands_end source n close statements c is r =
    let R : Option PartEnd → Type 0 = λ o. Reached (part_tokens source) (length source) n o statements in
    subst R is r

-- the next piece is no statement
pub breaks_next : (source : List ℕ) (n line : ℕ) (close : Option PartEnd) (statements : List Statement) → close ≡ None → IsBroken source n line → Reached (part_tokens source) (length source) n close statements
    → IsIllegal source line
breaks_next source n line close statements going b r =
    let R : Option PartEnd → Type 0 = λ o. Reached (part_tokens source) (length source) n o statements in
    let P : List Piece → Type 0 = λ ps. Breaks (part_tokens source) (length source) ps line in
    let p : Piece = b.0 in
    let Q : ℕ → Type 0 = λ k. Breaks (part_tokens source) (length source) (p ∷ rest source (p.last + 1)) k in
    let open' = subst R going r in
    open'.1 line (subst P (sym b.1) (subst Q (sym b.3) (here p (rest source (p.last + 1)) b.2)))

faults_next : (source : List ℕ) (n : ℕ) (close : Option PartEnd) (statements : List Statement) (e : StatementFault) → close ≡ None → StopsAt source n e → Reached (part_tokens source) (length source) n close statements
    → IsFault source (fault_of e)
faults_next source n close statements (Illegal line) going b r = breaks_next source n line close statements going b r
faults_next source n close statements NoMemory going b r = tt

-- where the first piece of some tokens ends
record Front (at : ℕ) (ts : List Token) (last : ℕ) (mark : Token) : Type 0 where
  size : ℕ
  is : at + size ≡ last
  inside : size < length ts
  takes : take (size + 1) ts ≡ take size ts ++ mark ∷ []

same_piece : (p q : Piece) (ps qs : List Piece) → p ∷ ps ≡ q ∷ qs → p ≡ q
same_piece p q ps qs e = cc

last_in : Piece → ℕ
last_in p = p.last

mark_in : Piece → Token
mark_in p = p.mark

takes_more : (t : Token) (ts : List Token) (size : ℕ) (mark : Token) → take (size + 1) ts ≡ take size ts ++ mark ∷ [] → take (suc size + 1) (t ∷ ts) ≡ take (suc size) (t ∷ ts) ++ mark ∷ []
takes_more t ts size mark h = let e : suc size + 1 ≡ suc (size + 1) = omega arith in ap (λ i. take i (t ∷ ts)) e ∙ ap (λ l. t ∷ l) h

piece_front : (first at : ℕ) (ts : List Token) (f last : ℕ) (mark : Token) (ps : List Piece) → pieces first at ts ≡ piece f last mark ∷ ps → Front at ts last mark
unfolding last_in mark_in
piece_front first at [] f last mark ps e = cc
piece_front first at (t ∷ ts) f last mark ps e = elim (cases_Bool (is_end t.kind)) [
  | inl stop ↦ (let same : piece first at t ≡ piece f last mark = same_piece (piece first at t) (piece f last mark) (pieces (at + 1) (at + 1) ts) ps (sym (ap (λ b. if b then piece first at t ∷ pieces (at + 1) (at + 1) ts else pieces first (at + 1) ts) stop) ∙ e) in
      let there : at ≡ last = ap last_in same in
      record { size = 0; is = omega arith; inside = omega arith; takes = ap (λ x. x ∷ []) (ap mark_in same) })
  | inr other ↦ (let k : Front (at + 1) ts last mark = piece_front first (at + 1) ts f last mark ps (sym (ap (λ b. if b then piece first at t ∷ pieces (at + 1) (at + 1) ts else pieces first (at + 1) ts) other) ∙ e) in
      record { size = suc k.size; is = omega (arith, k.is); inside = omega (arith, k.inside); takes = takes_more t ts k.size mark k.takes })
]

-- the statements and tokens that were kept
pub record Held (source : List ℕ) (n : ℕ) (tokens : List Token) (statements : List Statement) : Type 0 where
  pub tokens_are : tokens ≡ take n (part_tokens source)
  pub past_is : n ≡ past 0 statements
  pub inside : n ≤ length (part_tokens source)
  pub placed : AllByRecursion (IsPlaced tokens) statements

past_more : (n : ℕ) (ss : List Statement) (s : Statement) → past n (ss ++ s ∷ []) ≡ s.last + 1
past_more n [] s = refl
past_more n (t ∷ ss) s = past_more (t.last + 1) ss s

placed_longer : (tokens more : List Token) (ss : List Statement) → length tokens ≤ length more → AllByRecursion (IsPlaced tokens) ss → AllByRecursion (IsPlaced more) ss
placed_longer tokens more [] h all = tt
placed_longer tokens more (s ∷ ss) h all = (record { forward = all.0.forward; inside = omega (arith, all.0.inside) }, placed_longer tokens more ss h all.1)

pub held_next : (source : List ℕ) (n m : ℕ) (found : DelimitedStatement) (mine tokens more : List Token) (close : Option PartEnd) (statements all : List Statement) → IsNext source n found mine m close → Held source n tokens statements
    → more ≡ tokens ++ mine ++ found.mark ∷ [] → all ≡ statements ++ found.statement ∷ [] → Held source m more all
held_next source n m found mine tokens more close statements all next h e f =
    let ts : List Token = part_tokens source in
    let k : Front n (drop n ts) found.statement.last found.mark = piece_front n n (drop n ts) n found.statement.last found.mark (rest source m) next.rest_is in
    let size : length (take n ts) ≡ n = length-take-le n ts h.inside in
    let dropped : length (drop n ts) ≡ length ts - n = length-drop n ts in
    let m_is : m ≡ n + (k.size + 1) = omega (arith, next.count_is, k.is) in
    let own_is : mine ≡ take k.size (drop n ts) = next.own_is ∙ ap (λ i. take i (drop n ts)) (let w : found.statement.last - n ≡ k.size = omega (arith, k.is) in w) in
    let inside : m ≤ length ts = omega (arith, k.inside) in
    let taken : take m ts ≡ take n ts ++ take (k.size + 1) (drop n ts) =
    ap (λ i. take i ts) m_is
    ∙ ap (λ i. take (i + (k.size + 1)) ts) (sym size)
    ∙ ap (take (length (take n ts) + (k.size + 1))) (sym (take-append-drop n ts))
    ∙ take-append-add (take n ts) (drop n ts) (k.size + 1) in
    let tokens_are : more ≡ take m ts =
    e ∙ append_assoc tokens mine (found.mark ∷ [])
    ∙ ap (λ l. l ++ (mine ++ found.mark ∷ [])) h.tokens_are
    ∙ ap (λ l. take n ts ++ (l ++ found.mark ∷ [])) own_is
    ∙ ap (λ l. take n ts ++ l) (sym k.takes)
    ∙ sym taken in
    let length_more : length more ≡ m = ap length tokens_are ∙ length-take-le m ts inside in
    let length_tokens : length tokens ≡ n = ap length h.tokens_are ∙ size in
    let P : List Statement → Type 0 = λ l. AllByRecursion (IsPlaced more) l in
    let first_is : found.statement.first ≡ n = ap (λ (s : Statement). s.first) next.fills.is in
    record {
      tokens_are = tokens_are;
      past_is = next.count_is ∙ sym (past_more 0 statements found.statement) ∙ ap (past 0) (sym f);
      inside = inside;
      placed = subst P (sym f) (all_append (IsPlaced more) statements (found.statement ∷ []) (placed_longer tokens more statements (omega arith) h.placed)
          (record { forward = omega (arith, first_is, k.is); inside = omega (arith, next.count_is) }, tt));
    }

-- what a reader of these bytes found
pub found_at : (old new : Progress) (source : List ℕ) (o : PartItem) (found : DelimitedStatement) → old.source ≡ source → o ≡ found_next.Statement found → Finds old o new → (old.close ≡ None) × IsNext source old.count found new.own new.count new.close
found_at old new source o found same is h =
    let P : PartItem → Type 0 = λ x. Finds old x new in
    let Q : List ℕ → Type 0 = λ s. IsNext s old.count found new.own new.count new.close in
    let k = subst P is h in
    (k.0, subst Q same k.1)

pub ended_so : (old new : Progress) (o : PartItem) (c : PartEnd) → o ≡ End c → Finds old o new → old.close ≡ Some c
ended_so old new o c is h = let P : PartItem → Type 0 = λ x. Finds old x new in let k = subst P is h in k.0

pub fault_at : (old : Progress) (source : List ℕ) (statements : List Statement) (e : StatementFault) → old.source ≡ source → BreaksNext old e → Reached (part_tokens source) (length source) old.count old.close statements → IsFault source (fault_of e)
fault_at old source statements e same h r = let P : List ℕ → Type 0 = λ x. StopsAt x old.count e in faults_next source old.count old.close statements e h.0 (subst P same h.1) r

pub on_ok : {X E : Type 0} (r : Result X E) (P : Type 0) → OnOk r P → is_ok r ≡ true → P
on_ok (Ok x) P h is = h
on_ok (Err e) P h is = cc

pub reached_at : (source : List ℕ) (n : ℕ) (close : Option PartEnd) (ss ts : List Statement) → ts ≡ ss → Reached (part_tokens source) (length source) n close ss → Reached (part_tokens source) (length source) n close ts
reached_at source n close ss ts e h = let P : List Statement → Type 0 = λ l. Reached (part_tokens source) (length source) n close l in subst P (sym e) h

-- the error that is handed on
pub told_on : {V E : Type 0} (r : Result V E) (fault : E) (P : E → Type 0) → IsErrAnd r (λ e. e ≡ fault) → P fault → IfErr r P
told_on (Ok x) fault P e h = tt
told_on (Err f) fault P e h = subst P (sym e) h
