use Rattle.std.proofs.Common.{ℕ, List, drop, map}
use Rattle.command_line.specs.Places.{AreCellsOfText, AreCellsOfTexts, AreTextsRefused}
use Rattle.command_line.proofs.CellLemmas.{AreMoreCells}
use Rattle.command_line.proofs.place_options.named_cells.Given as goal

-- the cells so far and those that the texts left name are those of all texts, and if one of the texts left is refused, one of all texts is
abbrev pub invariant-loop-text : goal.invariant-loop-text
invariant-loop-text g l = ((set : List ℕ) → AreMoreCells (AreCellsOfText (g.C.AddressReader.names_cells l.reader)) (map (λ text. text.now) (drop l.text-index l.texts)) l.set set
    → AreCellsOfTexts (g.C.AddressReader.names_cells l.reader) (map (λ text. text.now) l.texts) set)
    × (AreTextsRefused (g.C.AddressReader.names_cells l.reader) (g.C.AddressReader.no_cells l.reader) (map (λ text. text.now) (drop l.text-index l.texts))
    → AreTextsRefused (g.C.AddressReader.names_cells l.reader) (g.C.AddressReader.no_cells l.reader) (map (λ text. text.now) l.texts))
