-- What a line adds to a fact in code, and where there is room for it.
use Rattle.std.specs.Prelude.{◌≡◌, ◌+◌, ◌<◌, ◌≤◌, List, [], ◌∷◌, ◌++◌, length}
use Rattle.domain.specs.Locations.{Ac}
use Rattle.domain.specs.TrackedCells.{TrackedCell}
use Rattle.domain.specs.Chains.{Chain}
use Rattle.domain.specs.Facts.{Relation}
use Rattle.domain.specs.CellsInCode.{cell_sets_of}
use Rattle.domain.specs.FactInCode.{fact_in_code, names_words}
use Rattle.domain.specs.declared.sum_fact.SumFact.{SumFact}
use Rattle.certificate_lines.specs.Lines.{Line, CellIs, SumIs, ChainIs}

-- There is room for a detail more.
abbrev pub HasRoomFor : SumFact 64 32 → Line → Type 0
HasRoomFor f (CellIs c) = length (cell_sets_of f.cells) < 64
HasRoomFor f (SumIs r) = length (fact_in_code f).relations < 32
HasRoomFor f (ChainIs c) = length (fact_in_code f).chains < 72
HasRoomFor f _ = Unit {0}

-- A fact tells of what a detail says, behind what it told of before.
abbrev pub Adds : SumFact 64 32 → SumFact 64 32 → Line → Type 0
Adds old new (CellIs c) =
    (cell_sets_of new.cells ≡ cell_sets_of old.cells ++ c ∷ []) ×
    (fact_in_code new ≡ record (fact_in_code old) { set = names_words ((fact_in_code old).set Ac) (cell_sets_of new.cells) })
Adds old new (SumIs r) =
    (cell_sets_of new.cells ≡ cell_sets_of old.cells) ×
    (fact_in_code new ≡ record (fact_in_code old) { relations = (fact_in_code old).relations ++ r ∷ [] })
Adds old new (ChainIs c) =
    (cell_sets_of new.cells ≡ cell_sets_of old.cells) ×
    (fact_in_code new ≡ record (fact_in_code old) { chains = (fact_in_code old).chains ++ c ∷ [] })
Adds old new _ = new ≡ old

-- The details at the front of lines are told of behind what was told of before.
pub record AddsAll (old new : SumFact 64 32) (cells : List TrackedCell) (relations : List Relation) (chains : List Chain) : Type 0 where
  pub cells_are : cell_sets_of new.cells ≡ cell_sets_of old.cells ++ cells
  pub is : fact_in_code new ≡ record (fact_in_code old) {
    set = names_words ((fact_in_code old).set Ac) (cell_sets_of old.cells ++ cells);
    relations = (fact_in_code old).relations ++ relations;
    chains = (fact_in_code old).chains ++ chains;
  }

-- There is room for all of them.
abbrev pub HasRoomUnder : SumFact 64 32 → List TrackedCell → List Relation → List Chain → Type 0
HasRoomUnder f cells relations chains =
    (length (cell_sets_of f.cells) + length cells ≤ 64) × (length (fact_in_code f).relations + length relations ≤ 32) ×
    (length (fact_in_code f).chains + length chains ≤ 72)
