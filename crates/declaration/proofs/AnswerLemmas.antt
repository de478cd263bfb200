-- Each text has one answer: one declaration or one fault.
use Rattle.std.proofs.Common.{◌≡◌, ◌≢◌, ℕ, ◌+◌, ◌<◌, ◌≤◌, Bool, true, false, List, [], ◌∷◌, length, Option, Some, None, Result, Ok, Err, IfOk, IfErr, refl, sym, ap, ◌∙◌, inl, inr, ◌⊎◌}
use Rattle.std.specs.Prelude.{nat_le, if◌then◌else◌, is_some, ok_or}
use Rattle.std.specs.Option.{option_map, option_or}
use Rattle.std.proofs.lemmas.Bool.{lt-leb, cases_lt}
use Rattle.streams.specs.Text.{text_lines}
use Rattle.wordset.specs.Words.{first_below}
use Rattle.declaration.specs.Declaration.{Declaration}
use Rattle.declaration.specs.Laws.{DeclarationIsOne, DeclarationFaultIsOne, DeclarationIsNoFault, EachTextIsAnswered}
use Rattle.declaration.specs.Lines.{Line, Start, Sub, Machine, Skips, Holds, Returns, line_of}
use Rattle.declaration.specs.Text.{Contents, nothing_said, with_line, with_lines, and_then, contents, overlaps, entry_in_index, halt_outside, misplaced, fault_at, fault_of, declaration_of, unless, whole, reading, Declares, Fails, most_bytes}
use Rattle.declaration.specs.declared.DeclarationFault.{DeclarationFault}
use Rattle.declaration.specs.declared.DeclarationFault.TheVariants.{TwoStarts, TwoProfiles, NoStart, Overlap, EntryInAutoIndex, StartNotInMain, TooMany, HaltNotInBody, Misplaced, NoMemory}

-- ---- want of memory is no fault of a text

if_no_memory : (b : Bool) (fault : DeclarationFault) (c : Contents) → fault ≢ NoMemory → (if b then Err fault else Ok c) ≡ Err NoMemory → ⊥
if_no_memory true fault c known e = let same : fault ≡ NoMemory = cc in known same
if_no_memory false fault c known e = cc

line_no_memory : (number : ℕ) (c : Contents) (line : Option Line) → with_line number c line ≡ Err NoMemory → ⊥
line_no_memory number c None e = cc
line_no_memory number c (Some (Start x)) e = if_no_memory (is_some c.start) (TwoStarts number) _ (λ z. cc) e
line_no_memory number c (Some (Machine x)) e = if_no_memory (is_some c.profile) (TwoProfiles number) _ (λ z. cc) e
line_no_memory number c (Some (Sub x)) e = if_no_memory (nat_le 64 (length c.routines)) TooMany _ (λ z. cc) e
line_no_memory number c (Some (Skips x)) e = if_no_memory (nat_le 64 (length c.skips)) TooMany _ (λ z. cc) e
line_no_memory number c (Some (Holds x)) e = if_no_memory (nat_le 256 (length c.holds + length c.returns)) TooMany _ (λ z. cc) e
line_no_memory number c (Some (Returns x)) e = if_no_memory (nat_le 256 (length c.holds + length c.returns)) TooMany _ (λ z. cc) e
line_no_memory number c (Some line) e = cc

then_no_memory : {S T : Type 0} (r : Result S DeclarationFault) (next : S → Result T DeclarationFault) → (r ≡ Err NoMemory → ⊥) → ((x : S) → next x ≡ Err NoMemory → ⊥) → and_then r next ≡ Err NoMemory → ⊥
then_no_memory (Ok x) next first later e = later x e
then_no_memory (Err fault) next first later e = let same : fault ≡ NoMemory = cc in first (ap Err same)

lines_no_memory : (count : ℕ) (c : Contents) (lines : List (List ℕ)) → with_lines count c lines ≡ Err NoMemory → ⊥
lines_no_memory count c [] e = cc
lines_no_memory count c (line ∷ lines) e =
    then_no_memory (with_line (count + 1) c (line_of line)) (λ d. with_lines (count + 1) d lines) (line_no_memory (count + 1) c (line_of line)) (λ d. lines_no_memory (count + 1) d lines) e

contents_no_memory : (text : List ℕ) → contents text ≡ Err NoMemory → ⊥
contents_no_memory text e = go (nat_le (length text) most_bytes) e
  where
    go : (b : Bool) → (if b then with_lines 0 nothing_said (text_lines text) else Err TooMany) ≡ Err NoMemory → ⊥
    go true is = lines_no_memory 0 nothing_said (text_lines text) is
    go false is = cc

or_no_memory : (first other : Option DeclarationFault) → (first ≡ Some NoMemory → ⊥) → (other ≡ Some NoMemory → ⊥) → option_or first other ≡ Some NoMemory → ⊥
or_no_memory None other first_not later e = later e
or_no_memory (Some fault) other first_not later e = first_not e

at_no_memory : (fault : ℕ → DeclarationFault) (o : Option ℕ) → ((a : ℕ) → fault a ≢ NoMemory) → option_map fault o ≡ Some NoMemory → ⊥
at_no_memory fault None known e = cc
at_no_memory fault (Some a) known e = let same : fault a ≡ NoMemory = cc in known a same

start_no_memory : (b : Bool) → (if b then None else Some StartNotInMain) ≡ Some NoMemory → ⊥
start_no_memory true e = cc
start_no_memory false e = cc

-- the faults of all lines, from the last kind back to the first
rules_no_memory : (c : Contents) (start : ℕ) → fault_of c start ≡ Some NoMemory → ⊥
rules_no_memory c start =
    let placed : fault_at Misplaced (misplaced c) ≡ Some NoMemory → ⊥ = at_no_memory Misplaced (first_below 4096 (misplaced c)) (λ a z. cc) in
    let halts : option_or (fault_at HaltNotInBody (halt_outside c)) (fault_at Misplaced (misplaced c)) ≡ Some NoMemory → ⊥ =
    or_no_memory (fault_at HaltNotInBody (halt_outside c)) (fault_at Misplaced (misplaced c)) (at_no_memory HaltNotInBody (first_below 4096 (halt_outside c)) (λ a z. cc)) placed in
    let main = or_no_memory (if c.main start then None else Some StartNotInMain) (option_or (fault_at HaltNotInBody (halt_outside c)) (fault_at Misplaced (misplaced c))) (start_no_memory (c.main start)) halts in
    let index = or_no_memory (fault_at EntryInAutoIndex (entry_in_index c)) _ (at_no_memory EntryInAutoIndex (first_below 4096 (entry_in_index c)) (λ a z. cc)) main in
    or_no_memory (fault_at Overlap (overlaps c)) _ (at_no_memory Overlap (first_below 4096 (overlaps c)) (λ a z. cc)) index

no_start_no_memory : (o : Option ℕ) → ok_or o NoStart ≡ Err NoMemory → ⊥
no_start_no_memory None e = cc
no_start_no_memory (Some s) e = cc

unless_no_memory : (o : Option DeclarationFault) (d : Declaration) → (o ≡ Some NoMemory → ⊥) → unless o d ≡ Err NoMemory → ⊥
unless_no_memory None d known e = cc
unless_no_memory (Some fault) d known e = let same : fault ≡ NoMemory = cc in known (ap Some same)

whole_no_memory : (c : Contents) → whole c ≡ Err NoMemory → ⊥
whole_no_memory c =
    then_no_memory (ok_or c.start NoStart) (λ start. unless (fault_of c start) (declaration_of c start)) (no_start_no_memory c.start)
    (λ start. unless_no_memory (fault_of c start) (declaration_of c start) (rules_no_memory c start))

no_memory : (text : List ℕ) → reading text ≡ Err NoMemory → ⊥
no_memory text = then_no_memory (contents text) whole (contents_no_memory text) whole_no_memory

-- ---- what a text is read as is its declaration or its fault

pub has_fault : (text : List ℕ) (fault : DeclarationFault) → reading text ≡ Err fault → Fails text fault
has_fault text NoMemory is = absurd (no_memory text is)
has_fault text fault is = record { is = is }

fault_is : (text : List ℕ) (fault : DeclarationFault) → fault ≢ NoMemory → Fails text fault → reading text ≡ Err fault
fault_is text NoMemory known f = absurd (known refl)
fault_is text fault known f = f.is

pub one_declaration : DeclarationIsOne
one_declaration text d e s t = let both : Ok d ≡ Ok e = sym s.is ∙ t.is in cc

pub one_fault : DeclarationFaultIsOne
one_fault text f g known also a b = let both : Err f ≡ Err g = sym (fault_is text f known a) ∙ fault_is text g also b in cc

pub no_fault : DeclarationIsNoFault
no_fault text d fault known s f = let both : Ok d ≡ Err fault = sym s.is ∙ fault_is text fault known f in cc

pub each_is_answered : EachTextIsAnswered
each_is_answered text = go (reading text) refl
  where
    go : (r : Result Declaration DeclarationFault) → reading text ≡ r → ((d : Declaration) × Declares text d) ⊎ ((fault : DeclarationFault) × (fault ≢ NoMemory) × Fails text fault)
    go (Ok d) is = inl (d, record { is = is })
    go (Err fault) is = inr (fault, (λ same. no_memory text (is ∙ ap Err same)), has_fault text fault is)

-- ---- a text that is too long

pub too_long : (text : List ℕ) → most_bytes < length text → reading text ≡ Err TooMany
too_long text long = rw (lt-leb (length text) most_bytes long) refl

pub declares_short : (text : List ℕ) (d : Declaration) → Declares text d → length text ≤ most_bytes
declares_short text d s = elim (cases_lt most_bytes (length text)) [
  | inl long ↦ let both : Err TooMany ≡ Ok d = sym (too_long text long) ∙ s.is in absurd (cc)
  | inr short ↦ short
]

-- ---- what the reader answers

-- a text that has a declaration fails by want of memory alone
only_memory : (text : List ℕ) (d : Declaration) (fault : DeclarationFault) → Declares text d → Fails text fault → fault ≡ NoMemory
only_memory text d NoMemory s f = refl
only_memory text d fault s f = let both : Ok d ≡ Err fault = sym s.is ∙ f.is in absurd (cc)

pub only_from : {V : Type 0} (r : Result V DeclarationFault) (text : List ℕ) → IfErr r (Fails text) → (d : Declaration) → Declares text d → IfErr r (λ fault. fault ≡ NoMemory)
only_from (Ok v) text refused d s = tt
only_from (Err fault) text refused d s = only_memory text d fault s refused

-- of two faults of a text one is want of memory, or they are one
pub exact_from : {V : Type 0} (meaning : V → Declaration) (r : Result V DeclarationFault) (text : List ℕ) → IfOk r (λ v. Declares text (meaning v)) → IfErr r (Fails text)
    → (fault : DeclarationFault) → Fails text fault → fault ≢ NoMemory → (r ≡ Err fault) ⊎ (r ≡ Err NoMemory)
exact_from meaning (Ok v) text found refused fault f known = absurd (no_fault text (meaning v) fault known found f)
exact_from meaning (Err NoMemory) text found refused fault f known = inr refl
exact_from meaning (Err other) text found refused fault f known = let both : Err other ≡ Err fault = sym refused.is ∙ fault_is text fault known f in let same : other ≡ fault = cc in inl (ap Err same)
