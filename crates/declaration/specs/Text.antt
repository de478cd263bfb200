-- The declaration that a text has, or its first fault.
use Rattle.std.specs.Prelude.{◌≡◌, ℕ, ◌+◌, ◌≤◌, ◌==◌, nat_le, Bool, true, false, not, ◌&&◌, ◌||◌, if◌then◌else◌, List, [], ◌∷◌, ◌++◌, length, map, Option, Some, None, is_some, unwrap_or, Result, Ok, Err, IsOk, ok_or}
use Rattle.std.specs.List.{list_any, count_by}
use Rattle.std.specs.Option.{option_map, option_map_or, option_or}
use Rattle.instruct.specs.declared.Profile.{Profile}
use Rattle.instruct.specs.declared.Profile.TheVariants.{Pdp8I}
use Rattle.wordset.specs.Words.{Words, nothing, union, first_below}
use Rattle.processor.specs.Machine.{is_auto_index}
use Rattle.streams.specs.Taking.{StandsAt}
use Rattle.streams.specs.Text.{text_lines}
use Rattle.declaration.specs.Declaration.{Declaration, PlaceAssertion, ReturnAssertion}
use Rattle.declaration.specs.Lines.{Subroutine, FurtherOffsets, Line, Nothing, Start, Main, Sub, Variables, Stops, Pauses, Machine, Reads, Skips, Moves, Abandon, Holds, Returns, line_of}
use Rattle.declaration.specs.DeclarationInCode.{subroutine_of}
use Rattle.declaration.specs.declared.Routine.{Routine as KeptRoutine}
use Rattle.declaration.specs.declared.DeclarationFault.{DeclarationFault}
use Rattle.declaration.specs.declared.DeclarationFault.TheVariants.{BadLine, TwoStarts, TwoProfiles, NoStart, Overlap, EntryInAutoIndex, StartNotInMain, TooMany, HaltNotInBody, Misplaced, NoMemory}

-- The maximum number of bytes of a text.
abbrev pub most_bytes : ℕ
most_bytes = 16384

-- What lines say together: the start and the machine, if a line names them; the cells of main's body; the routines in the
-- order of their lines; the variables, the stops and the pauses; the cells that may be read, if some line lists them;
-- further offsets in the order of their lines; the entries in which their routines may store; the addresses for which
-- calls may be abandoned; and the assertions about addresses and about returns, in the order of the lines.
pub record Contents : Type 0 where
  pub start : Option ℕ
  pub profile : Option Profile
  pub main : Words
  pub routines : List Subroutine
  pub variable : Words
  pub stop : Words
  pub pause : Words
  pub reads : Option Words
  pub skips : List FurtherOffsets
  pub moves : Words
  pub abandon : Words
  pub holds : List PlaceAssertion
  pub returns : List ReturnAssertion

-- Before its first line a text says nothing.
abbrev pub nothing_said : Contents
nothing_said = record {
  start = None;
  profile = None;
  main = nothing;
  routines = [];
  variable = nothing;
  stop = nothing;
  pause = nothing;
  reads = None;
  skips = [];
  moves = nothing;
  abandon = nothing;
  holds = [];
  returns = [];
}

-- What is said after a list has grown, unless it already had this maximum number of items.
abbrev pub unless_full : ℕ → ℕ → Contents → Result Contents DeclarationFault
unless_full most count grown = if nat_le most count then Err TooMany else Ok grown

-- What is said with the line of this number and this meaning, after what was said before; or the fault of the line: it is
-- bad; it is a second start or a second machine; or it is the 65th routine, the 65th line of further offsets or the 257th
-- assertion.
abbrev pub with_line : ℕ → Contents → Option Line → Result Contents DeclarationFault
with_line number c None = Err (BadLine number)
with_line number c (Some Nothing) = Ok c
with_line number c (Some (Start a)) = if is_some c.start then Err (TwoStarts number) else Ok (record c { start = Some a })
with_line number c (Some (Main cells)) = Ok (record c { main = union c.main cells })
with_line number c (Some (Sub r)) = unless_full 64 (length c.routines) (record c { routines = c.routines ++ r ∷ [] })
with_line number c (Some (Variables cells)) = Ok (record c { variable = union c.variable cells })
with_line number c (Some (Stops cells)) = Ok (record c { stop = union c.stop cells })
with_line number c (Some (Pauses cells)) = Ok (record c { pause = union c.pause cells })
with_line number c (Some (Machine p)) = if is_some c.profile then Err (TwoProfiles number) else Ok (record c { profile = Some p })
with_line number c (Some (Reads cells)) = Ok (record c { reads = Some (union (unwrap_or c.reads nothing) cells) })
with_line number c (Some (Skips s)) = unless_full 64 (length c.skips) (record c { skips = c.skips ++ s ∷ [] })
with_line number c (Some (Moves cells)) = Ok (record c { moves = union c.moves cells })
with_line number c (Some (Abandon cells)) = Ok (record c { abandon = union c.abandon cells })
with_line number c (Some (Holds h)) = unless_full 256 (length c.holds + length c.returns) (record c { holds = c.holds ++ h ∷ [] })
with_line number c (Some (Returns r)) = unless_full 256 (length c.holds + length c.returns) (record c { returns = c.returns ++ r ∷ [] })

-- What comes next, or the fault that came before it.
abbrev pub and_then : {S T : Type 0} → Result S DeclarationFault → (S → Result T DeclarationFault) → Result T DeclarationFault
and_then (Ok x) next = next x
and_then (Err fault) next = Err fault

-- What is said once these lines are read too, where this many lines before them said this; or the fault of the first of
-- them that has one. The first line of a text has the number 1.
abbrev pub with_lines : ℕ → Contents → List (List ℕ) → Result Contents DeclarationFault
with_lines count c [] = Ok c
with_lines count c (line ∷ lines) =
    and_then (with_line (count + 1) c (line_of line)) (λ d. with_lines (count + 1) d lines)

-- What the lines of a text say together, or the first fault: the text is too long, which is found without looking at any
-- line, or one of its lines has a fault.
abbrev pub contents : List ℕ → Result Contents DeclarationFault
contents text = if nat_le (length text) most_bytes then with_lines 0 nothing_said (text_lines text) else Err TooMany

-- Some routine has this cell as its entry.
abbrev pub is_entry : Contents → Words
is_entry c a = list_any (λ r. r.entry == a) c.routines

-- The cell is in main's body or in that of some routine.
abbrev pub in_bodies : Contents → Words
in_bodies c a = c.main a || list_any (λ r. r.body a) c.routines

-- In how many bodies the cell is: in main's, and in those of the routines, counted line by line.
abbrev pub bodies_at : Contents → ℕ → ℕ
bodies_at c a = (if c.main a then 1 else 0) + count_by (λ r. r.body a) c.routines

-- A cell overlaps: it is in two bodies; it is an entry and in a body, or an entry and a variable; it is the entry of two
-- routines; or it is both a stop and a pause.
abbrev pub overlaps : Contents → Words
overlaps c a =
    nat_le 2 (bodies_at c a) || (is_entry c a && in_bodies c a) || (is_entry c a && c.variable a)
    || nat_le 2 (count_by (λ r. r.entry == a) c.routines) || (c.stop a && c.pause a)

-- An entry is an auto-index cell.
abbrev pub entry_in_index : Contents → Words
entry_in_index c a = is_entry c a && is_auto_index a

-- A declared halt is in no body.
abbrev pub halt_outside : Contents → Words
halt_outside c a = (c.stop a || c.pause a) && not (in_bodies c a)

-- The cell is named as an entry: by further offsets, as an entry in which its routine may store, or by an assertion
-- about returns.
abbrev pub is_named_entry : Contents → Words
is_named_entry c a =
    (list_any (λ s. s.entry == a) c.skips || c.moves a) || list_any (λ r. r.entry == a) c.returns

-- The cell is named as an entry but is not one; or calls may be abandoned for it, but it is not in main's body; or there is
-- an assertion about it, but it is not in any body.
abbrev pub misplaced : Contents → Words
misplaced c a =
    (is_named_entry c a && not (is_entry c a)) || (c.abandon a && not (c.main a))
    || (list_any (λ h. h.places a) c.holds && not (in_bodies c a))

-- The fault at the least of these cells, if there is one.
abbrev pub fault_at : (ℕ → DeclarationFault) → Words → Option DeclarationFault
fault_at fault cells = option_map fault (first_below 4096 cells)

-- The first fault that all lines have together, if the program starts there: a cell overlaps; an entry is an auto-index
-- cell; the start is not in main's body; a declared halt is in no body; or a cell is misplaced.
abbrev pub fault_of : Contents → ℕ → Option DeclarationFault
fault_of c start =
    option_or (fault_at Overlap (overlaps c))
    (option_or (fault_at EntryInAutoIndex (entry_in_index c))
    (option_or (if c.main start then None else Some StartNotInMain)
    (option_or (fault_at HaltNotInBody (halt_outside c))
    (fault_at Misplaced (misplaced c)))))

-- The declaration that says what all lines say, if the program starts there. The offsets of a routine are those of its
-- own line and of the lines of further offsets; the machine is the 8/I if no line names one.
abbrev pub declaration_of : Contents → ℕ → Declaration
declaration_of c start = record {
  start = start;
  body = λ routine. option_map_or (λ e a. list_any (λ r. r.entry == e && r.body a) c.routines) routine c.main;
  entry = is_entry c;
  offset = λ e o. list_any (λ r. r.entry == e && r.offsets o) c.routines || list_any (λ s. s.entry == e && s.offsets o) c.skips;
  variable = c.variable;
  stop = c.stop;
  pause = c.pause;
  profile = unwrap_or c.profile Pdp8I;
  reads = c.reads;
  moves = c.moves;
  abandon = c.abandon;
  holds = c.holds;
  returns = c.returns;
}

-- The declaration, unless there is a fault.
abbrev pub unless : Option DeclarationFault → Declaration → Result Declaration DeclarationFault
unless None d = Ok d
unless (Some fault) d = Err fault

-- The declaration that says what all lines say, or the first fault that they have together: there is no start, or one of
-- those above.
abbrev pub whole : Contents → Result Declaration DeclarationFault
whole c = and_then (ok_or c.start NoStart) (λ start. unless (fault_of c start) (declaration_of c start))

-- The declaration that a text has, or its first fault.
abbrev pub reading : List ℕ → Result Declaration DeclarationFault
reading text = and_then (contents text) whole

-- The text has this declaration.
pub record Declares (text : List ℕ) (d : Declaration) : Type 0 where
  pub is : reading text ≡ Ok d

-- These routines are those of the text, in the order of their lines, none of which has a fault.
pub record ListsRoutines (text : List ℕ) (routines : List KeptRoutine) : Type 0 where
  pub said : Contents
  pub is : contents text ≡ Ok said
  pub listed : map subroutine_of routines ≡ said.routines

-- The text has this fault as its first.
pub record HasFault (text : List ℕ) (fault : DeclarationFault) : Type 0 where
  pub is : reading text ≡ Err fault

-- The line makes a list grow, for which memory is requested: it declares a routine, further offsets or an assertion.
abbrev pub takes_memory : Option Line → Bool
takes_memory (Some (Sub r)) = true
takes_memory (Some (Skips s)) = true
takes_memory (Some (Holds h)) = true
takes_memory (Some (Returns r)) = true
takes_memory _ = false

-- Memory is requested while the text is read, and may be refused: the text is not too long, the lines before some line have
-- no fault, and neither has that line, which takes memory.
pub record AsksForMemory (text : List ℕ) : Type 0 where
  pub short : length text ≤ most_bytes
  pub before : List (List ℕ)
  pub line : List ℕ
  pub number : ℕ
  pub stands : StandsAt (text_lines text) before line number
  pub said : Contents
  pub is : with_lines 0 nothing_said before ≡ Ok said
  pub good : IsOk (with_line number said (line_of line))
  pub takes : takes_memory (line_of line) ≡ true

-- The text has this fault as its first, where want of memory is not a fault of the text.
abbrev pub Fails : List ℕ → DeclarationFault → Type 0
Fails text NoMemory = AsksForMemory text
Fails text fault = HasFault text fault
