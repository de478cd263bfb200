-- What is gathered while a declaration is read. Private contracts alone cite this.
use Rattle.std.specs.Prelude.{◌≡◌, ℕ, ◌+◌, nat_le, ◌==◌, ◌||◌, if◌then◌else◌, true, List, map, Option, None, Ok, Err, IsOk}
use Rattle.std.specs.List.{list_any, count_by, before_first}
use Rattle.std.specs.Option.{option_map}
use Rattle.wordset.specs.Words.{Words, HasNoneFrom}
use Rattle.wordset.specs.Lanes.{words}
use Rattle.declaration.specs.DeclarationInCode.{subroutine_of, further_of, place_assertion_of, return_assertion_of}
use Rattle.declaration.specs.Lines.{Line, Nothing, Start, Main, Sub, Variables, Stops, Pauses, Machine, Reads, Skips, Moves, Abandon, Holds, Returns, all_of, range_of, address_of, is_returns, is_subject}
use Rattle.declaration.specs.Text.{Contents, with_line, takes_memory, overlaps, entry_in_index, halt_outside, misplaced}
use Rattle.declaration.specs.declared.Routine.{Routine as KeptRoutine}
use Rattle.declaration.specs.declared.DeclarationFault.{DeclarationFault}
use Rattle.declaration.specs.declared.DeclarationFault.TheVariants.{NoMemory}
use Rattle.declaration.specs.declared.lines.Form.{Form}
use Rattle.declaration.specs.declared.lines.Form.TheVariants.{Range, Address}
use Rattle.declaration.specs.declared.lines.DeclarationLine.{DeclarationLine as KeptLine}
use Rattle.declaration.specs.declared.lines.DeclarationLine.TheVariants.{Nothing as KeptNothing, Start as KeptStart, Main as KeptMain, Sub as KeptSub, Variables as KeptVariables, Stops as KeptStops, Pauses as KeptPauses, Machine as KeptMachine, Reads as KeptReads, Skips as KeptSkips, Moves as KeptMoves, Abandon as KeptAbandon, Holds as KeptHolds, Returns as KeptReturns}
use Rattle.declaration.specs.declared.FurtherOffsets.{FurtherOffsets as KeptFurtherOffsets}
use Rattle.declaration.specs.declared.ReturnAssertion.{ReturnAssertion as KeptReturnAssertion}
use Rattle.declaration.specs.declared.drafts.Draft.{Draft}
use Rattle.declaration.specs.declared.coverage.Coverage.{Coverage}

-- What a word of a list of cells may be.
abbrev pub cells_read : Form → List ℕ → Option Words
cells_read Range word = range_of word
cells_read Address word = address_of word

-- The ranges of a body, of which there may be none, up to the word `returns`.
abbrev pub ranges_before : List (List ℕ) → Option Words
ranges_before words = if list_any is_returns words then all_of range_of (before_first is_returns words) else None

-- The cells of the addresses before the name of a subject, of which there may be none.
abbrev pub cells_before : List (List ℕ) → Option Words
cells_before words = all_of address_of (before_first is_subject words)

-- What a line in code says.
abbrev pub said : KeptLine → Line
said KeptNothing = Nothing
said (KeptStart at) = Start at
said (KeptMain set) = Main (words set)
said (KeptSub r) = Sub (subroutine_of r)
said (KeptVariables set) = Variables (words set)
said (KeptStops set) = Stops (words set)
said (KeptPauses set) = Pauses (words set)
said (KeptMachine p) = Machine p
said (KeptReads set) = Reads (words set)
said (KeptSkips s) = Skips (further_of s)
said (KeptMoves set) = Moves (words set)
said (KeptAbandon set) = Abandon (words set)
said (KeptHolds h) = Holds (place_assertion_of h)
said (KeptReturns r) = Returns (return_assertion_of r)

-- What is gathered so far.
abbrev pub gathered : {A : Type 0} → Draft A → Contents
gathered d = record {
  start = d.start;
  profile = d.profile;
  main = words d.main;
  routines = map subroutine_of d.routines.items;
  variable = words d.variables;
  stop = words d.stops;
  pause = words d.pauses;
  reads = option_map words d.reads;
  skips = map further_of d.skips.items;
  moves = words d.moves;
  abandon = words d.abandons;
  holds = map place_assertion_of d.holds.items;
  returns = map return_assertion_of d.returns.items;
}

-- A line that is taken has no fault, whatever its number, and this is said with it.
abbrev pub Adds : Contents → Option Line → Contents → Type 0
Adds c line after = (number : ℕ) → with_line number c line ≡ Ok after

-- A line of this number is refused for its fault, or for want of the memory that it takes.
abbrev pub IsRefused : Contents → ℕ → Option Line → DeclarationFault → Type 0
IsRefused c number line NoMemory = (takes_memory line ≡ true) × IsOk (with_line number c line)
IsRefused c number line fault = with_line number c line ≡ Err fault

-- Nothing overlaps, no entry is an auto-index cell, the start is in main's body, each declared halt is in some body, and
-- nothing is misplaced.
pub record KeepsRules (c : Contents) (start : ℕ) : Type 0 where
  pub apart : HasNoneFrom 0 (overlaps c)
  pub outside_index : HasNoneFrom 0 (entry_in_index c)
  pub start_in_main : c.main start ≡ true
  pub halts_inside : HasNoneFrom 0 (halt_outside c)
  pub placed : HasNoneFrom 0 (misplaced c)

-- How many routines have the cell as their entry, counted line by line.
abbrev pub entries_at : Contents → ℕ → ℕ
entries_at c a = count_by (λ r. r.entry == a) c.routines

-- There is an assertion about this address.
abbrev pub is_held : Contents → Words
is_held c a = list_any (λ h. h.places a) c.holds

-- The two sets have the words that stand in so many sets or more: one, and two.
pub record Counts (coverage : Coverage) (number : ℕ → ℕ) : Type 0 where
  pub once : (a : ℕ) → words coverage.once a ≡ nat_le 1 (number a)
  pub twice : (a : ℕ) → words coverage.twice a ≡ nat_le 2 (number a)

-- In how many bodies a cell is, and how many routines have an entry, of those that are kept.
abbrev pub kept_bodies : List ℕ → List KeptRoutine → ℕ → ℕ
kept_bodies main routines a = (if words main a then 1 else 0) + count_by (λ r. words r.body a) routines

abbrev pub kept_entries : List KeptRoutine → ℕ → ℕ
kept_entries routines a = count_by (λ r. r.entry == a) routines

-- The cells that are named as entries, of what is kept.
abbrev pub named_entries : Words → List KeptFurtherOffsets → List KeptReturnAssertion → Words
named_entries moves skips returns a =
    (list_any (λ s. s.entry == a) skips || moves a) || list_any (λ r. r.entry == a) returns
