-- A part ends within its bytes.
use Rattle.std.proofs.Common.{◌≡◌, subst, ℕ, ◌+◌, ◌-◌, ◌≤◌, List, [], ◌∷◌, Bool, true, false, if◌then◌else◌, Option, Some, None, arith, drop}
use Rattle.std.specs.Prelude.{nat_eq}
use Rattle.std.specs.List.{AllByRecursion}
use Rattle.std.proofs.lemmas.Bool.{cond_both}
use Rattle.pal_text.specs.declared.tokens.Token.{Token}
use Rattle.pal_text.specs.declared.grammar.Form.{Form}
use Rattle.pal_text.specs.declared.grammar.Form.TheVariants as form
use Rattle.pal_text.specs.declared.statement.Statement.{Statement}
use Rattle.pal_text.specs.declared.statement.Ending.TheVariants as ending
use Rattle.pal_text.specs.declared.statement.PartEnd.{PartEnd}
use Rattle.pal_text.specs.Names.{IsWithin}
use Rattle.pal_text.specs.Tokens.{is_end}
use Rattle.pal_text.specs.Statements.{is_dollar, Piece, piece, pieces, own, last_end, closed, closing, Stand, ends, goes_on}
use Rattle.pal_text.proofs.Rises.{all_take, all_drop}

last_end_within : (size n : ℕ) (ts : List Token) → n ≤ size → AllByRecursion (IsWithin size) ts → last_end n ts ≤ size
last_end_within size n [] h all = h
last_end_within size n (t ∷ ts) h all = last_end_within size t.end ts all.0.inside all.1

-- a place where a part may end
abbrev Stops : ℕ → Option PartEnd → Type 0
Stops size None = Unit {0}
Stops size (Some c) = c.stop ≤ size

bytes_within : (size : ℕ) (b : Bool) → Stops size (if b then Some (closed ending.Bytes size) else None)
bytes_within size true = omega arith
bytes_within size false = tt

dollar_within : (size : ℕ) (mark : Token) (b : Bool) (o : Option PartEnd) → IsWithin size mark → Stops size o → Stops size (if b then Some (closed ending.Dollar mark.end) else o)
dollar_within size mark true o h k = h.inside
dollar_within size mark false o h k = k

pub closing_within : (size : ℕ) (ts : List Token) (mark : Token) (f : Form) → IsWithin size mark → AllByRecursion (IsWithin size) ts → Stops size (closing size ts mark f)
closing_within size ts mark form.Pause h all = last_end_within size mark.start ts (omega (arith, h.forward, h.inside)) all
closing_within size ts mark _ h all = dollar_within size mark (is_dollar mark.kind) (if nat_eq mark.start size then Some (closed ending.Bytes size) else None) h (bytes_within size (nat_eq mark.start size))

pub stop_by : (size : ℕ) (o : Option PartEnd) (c : PartEnd) → Stops size o → o ≡ Some c → c.stop ≤ size
stop_by size o c h e = let P : Option PartEnd → Type 0 = λ x. Stops size x in subst P e h

abbrev pub Marks : ℕ → List Piece → Type 0
Marks size ps = AllByRecursion (λ p. IsWithin size p.mark) ps

pub marks_within : (size first at : ℕ) (ts : List Token) → AllByRecursion (IsWithin size) ts → Marks size (pieces first at ts)
marks_within size first at [] all = tt
marks_within size first at (t ∷ ts) all =
    cond_both (is_end t.kind) (piece first at t ∷ pieces (at + 1) (at + 1) ts) (pieces first (at + 1) ts) (λ ps. Marks size ps)
    (λ is. (all.0, marks_within size (at + 1) (at + 1) ts all.1)) (λ is. marks_within size first (at + 1) ts all.1)

pub own_within : (tokens : List Token) (size : ℕ) (p : Piece) → AllByRecursion (IsWithin size) tokens → AllByRecursion (IsWithin size) (own tokens p)
own_within tokens size p all = all_take (IsWithin size) (p.last - p.first) (drop p.first tokens) (all_drop (IsWithin size) p.first tokens all)

stands_within : (tokens : List Token) (size : ℕ) (ps : List Piece) (ss : List Statement) (c : PartEnd) → AllByRecursion (IsWithin size) tokens → Marks size ps → Stand tokens size ps ss c → c.stop ≤ size
stands_within tokens size ps ss c all marks (ends p qs s d f e) =
    stop_by size (closing size (own tokens p) p.mark s.form) d (closing_within size (own tokens p) p.mark s.form marks.0 (own_within tokens size p all)) e
stands_within tokens size ps ss c all marks (goes_on p qs s rs d f e later) = stands_within tokens size qs rs d all marks.1 later

pub stop_within : (tokens : List Token) (size : ℕ) (ss : List Statement) (c : PartEnd) → AllByRecursion (IsWithin size) tokens → Stand tokens size (pieces 0 0 tokens) ss c → c.stop ≤ size
stop_within tokens size ss c all h = stands_within tokens size (pieces 0 0 tokens) ss c all (marks_within size 0 0 tokens all) h
