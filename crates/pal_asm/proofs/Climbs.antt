-- The pieces of a part stand on lines that never fall.
use Rattle.std.proofs.Common.{ℕ, ◌+◌, ◌≤◌, List, [], ◌∷◌, arith}
use Rattle.std.proofs.lemmas.Bool.{cond_both}
use Rattle.pal_text.specs.declared.tokens.Token.{Token}
use Rattle.pal_text.specs.Names.{part_tokens}
use Rattle.pal_text.specs.Tokens.{is_end}
use Rattle.pal_text.specs.Statements.{Piece, piece, pieces}
use Rattle.pal_asm.proofs.Lined.{lined, Links, Chain, part_chain}

abbrev pub Marks : ℕ → List Piece → Type 0
Marks n [] = Unit {0}
Marks n (p ∷ ps) = (n ≤ p.mark.line) × Marks p.mark.line ps

lower_marks : (ps : List Piece) (m n : ℕ) → m ≤ n → Marks n ps → Marks m ps
lower_marks [] m n h c = tt
lower_marks (p ∷ ps) m n h c = (omega (arith, c.0), c.1)

-- the first of some tokens is on no earlier line than this one
abbrev Starts : ℕ → List Token → Type 0
Starts n [] = Unit {0}
Starts n (t ∷ ts) = n ≤ t.line

starts_after : (t : Token) (ts : List Token) → Links t ts → Starts t.line ts
starts_after t [] h = tt
starts_after t (u ∷ us) h = h.0

starts_anywhere : (ts : List Token) → Starts 0 ts
starts_anywhere [] = tt
starts_anywhere (t ∷ ts) = omega arith

marks_climb : (L : ℕ → ℕ) (n first at : ℕ) (ts : List Token) → Starts n ts → Chain L ts → Marks n (pieces first at ts)
marks_climb L n first at [] h c = tt
marks_climb L n first at (t ∷ ts) h c =
    let after : Starts t.line ts = starts_after t ts c.2 in
    cond_both (is_end t.kind) (piece first at t ∷ pieces (at + 1) (at + 1) ts) (pieces first (at + 1) ts) (λ l. Marks n l)
    (λ is. (h, marks_climb L t.line (at + 1) (at + 1) ts after c.3))
    (λ is. lower_marks (pieces first (at + 1) ts) n t.line h (marks_climb L t.line first (at + 1) ts after c.3))

pub part_marks : (source : List ℕ) → Marks 0 (pieces 0 0 (part_tokens source))
part_marks source = marks_climb (lined source) 0 0 0 (part_tokens source) (starts_anywhere (part_tokens source)) (part_chain source)
