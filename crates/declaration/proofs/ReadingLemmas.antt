-- What lines that are taken say together, and the fault of the first that is refused.
use Rattle.std.proofs.Common.{ℕ, ◌≡◌, ◌≤◌, ◌+◌, List, [], ◌∷◌, ◌++◌, length, map, arith, refl, sym, ◌∙◌, ap, Result, Ok, Err, IfOk, IfErr, add-zero, append-nil}
use Rattle.std.proofs.lemmas.Bool.{le-leb}
use Rattle.streams.specs.Taking.{StandsAt, TakesAll, RefusesFirst}
use Rattle.streams.specs.Text.{text_lines}
use Rattle.declaration.specs.Declaration.{Declaration}
use Rattle.declaration.specs.DeclarationInCode.{subroutine_of}
use Rattle.declaration.specs.Lines.{line_of}
use Rattle.declaration.specs.Text.{Contents, nothing_said, with_line, with_lines, and_then, contents, whole, Declares, ListsRoutines, Fails, most_bytes}
use Rattle.declaration.specs.Drafts.{Adds, IsRefused}
use Rattle.declaration.specs.declared.Routine.{Routine as KeptRoutine}
use Rattle.declaration.specs.declared.DeclarationFault.{DeclarationFault}
use Rattle.declaration.specs.declared.DeclarationFault.TheVariants.{NoMemory}
use Rattle.declaration.proofs.AnswerLemmas.{has_fault}

-- lines that are taken, and more lines
taken : {S : Type 0} (say : S → Contents) (s t : S) (lines more : List (List ℕ)) (count : ℕ) → TakesAll (λ x line y. Adds (say x) (line_of line) (say y)) s lines t
    → with_lines count (say s) (lines ++ more) ≡ with_lines (count + length lines) (say t) more
taken say s t [] more count all = ap (λ x. with_lines count (say x) more) all ∙ ap (λ n. with_lines n (say t) more) (sym (add-zero count))
taken say s t (l ∷ ls) more count all =
    let number : (count + 1) + length ls ≡ count + length (l ∷ ls) = omega arith in
    ap (λ r. and_then r (λ d. with_lines (count + 1) d (ls ++ more))) (all.1 (count + 1))
    ∙ (taken say all.0 t ls more (count + 1) all.2
    ∙ ap (λ n. with_lines n (say t) more) number)

-- the same from the first line on
from_first : {S : Type 0} (say : S → Contents) (s t : S) (lines more : List (List ℕ)) → say s ≡ nothing_said → TakesAll (λ x line y. Adds (say x) (line_of line) (say y)) s lines t
    → with_lines 0 nothing_said (lines ++ more) ≡ with_lines (0 + length lines) (say t) more
from_first say s t lines more none all = ap (λ c. with_lines 0 c (lines ++ more)) (sym none) ∙ taken say s t lines more 0 all

alone : {S : Type 0} (say : S → Contents) (s t : S) (lines : List (List ℕ)) → say s ≡ nothing_said → TakesAll (λ x line y. Adds (say x) (line_of line) (say y)) s lines t
    → with_lines 0 nothing_said lines ≡ Ok (say t)
alone say s t lines none all = ap (λ ls. with_lines 0 nothing_said ls) (sym (append-nil lines)) ∙ from_first say s t lines [] none all

-- a text that is not too long says what its lines say
by_lines : (text : List ℕ) → length text ≤ most_bytes → contents text ≡ with_lines 0 nothing_said (text_lines text)
by_lines text short = rw (le-leb (length text) most_bytes short) refl

-- all lines are taken
pub all_taken : {S : Type 0} (say : S → Contents) (s t : S) (text : List ℕ) → length text ≤ most_bytes → say s ≡ nothing_said → TakesAll (λ x line y. Adds (say x) (line_of line) (say y)) s (text_lines text) t
    → contents text ≡ Ok (say t)
all_taken say s t text short none all = by_lines text short ∙ alone say s t (text_lines text) none all

-- a line is reached, and the rest depends on it
reached : {S : Type 0} (say : S → Contents) (s t : S) (text : List ℕ) (before : List (List ℕ)) (line : List ℕ) (number : ℕ) → length text ≤ most_bytes → say s ≡ nothing_said
    → TakesAll (λ x l y. Adds (say x) (line_of l) (say y)) s before t → (at : StandsAt (text_lines text) before line number)
    → contents text ≡ and_then (with_line number (say t) (line_of line)) (λ d. with_lines number d at.after)
reached say s t text before line number short none all at =
    let place : 0 + length before + 1 ≡ number = omega (arith, at.counted) in
    by_lines text short
    ∙ (ap (λ ls. with_lines 0 nothing_said ls) at.stands
    ∙ (from_first say s t before (line ∷ at.after) none all
    ∙ ap (λ n. and_then (with_line n (say t) (line_of line)) (λ d. with_lines n d at.after)) place))

-- the first line that is refused has the text's first fault, or asks for memory
pub first_refused : {S : Type 0} (say : S → Contents) (s u : S) (text : List ℕ) (fault : DeclarationFault) → length text ≤ most_bytes → say s ≡ nothing_said
    → RefusesFirst (λ x line y. Adds (say x) (line_of line) (say y)) (λ x number line f y. IsRefused (say x) number (line_of line) f) s (text_lines text) fault u → Fails text fault
first_refused say s u text NoMemory short none f = record {
  short = short;
  before = f.before;
  line = f.line;
  number = f.number;
  stands = f.stands;
  said = say f.t;
  is = alone say s f.t f.before none f.taken;
  good = f.refused.1;
  takes = f.refused.0;
}
first_refused say s u text fault short none f = record {
  is = ap (λ r. and_then r whole) (reached say s f.t text f.before f.line f.number short none f.taken f.stands
      ∙ ap (λ r. and_then r (λ d. with_lines f.number d f.stands.after)) f.refused);
}

-- ---- what all lines say is a declaration, or has a fault

pub found_whole : {V : Type 0} (meaning : V → Declaration) (r : Result V DeclarationFault) (text : List ℕ) (c : Contents) → contents text ≡ Ok c → IfOk r (λ v. whole c ≡ Ok (meaning v))
    → IfOk r (λ v. Declares text (meaning v))
found_whole meaning (Ok v) text c read is = record { is = ap (λ x. and_then x whole) read ∙ is }
found_whole meaning (Err fault) text c read is = tt

pub listed_whole : {V : Type 0} (routines : V → List KeptRoutine) (r : Result V DeclarationFault) (text : List ℕ) (c : Contents) → contents text ≡ Ok c → IfOk r (λ v. map subroutine_of (routines v) ≡ c.routines)
    → IfOk r (λ v. ListsRoutines text (routines v))
listed_whole routines (Ok v) text c read is = record { said = c; is = read; listed = is }
listed_whole routines (Err fault) text c read is = tt

pub refused_whole : {V : Type 0} (r : Result V DeclarationFault) (text : List ℕ) (c : Contents) → contents text ≡ Ok c → IfErr r (λ fault. whole c ≡ Err fault) → IfErr r (Fails text)
refused_whole (Ok v) text c read is = tt
refused_whole (Err fault) text c read is = has_fault text fault (ap (λ x. and_then x whole) read ∙ is)
