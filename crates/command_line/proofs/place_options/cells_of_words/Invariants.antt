use Rattle.std.proofs.Common.{ℕ, List}
use Rattle.std.specs.Prelude.{Any}
use Rattle.streams.specs.TextLeft.{words_left}
use Rattle.command_line.specs.Places.{AreCellsOf}
use Rattle.command_line.proofs.CellLemmas.{AreMoreCells}
use Rattle.command_line.proofs.place_options.cells_of_words.Given as goal

-- the cells so far and those that the words left name are those of all words, and if one of the words left is refused, one of all words is
abbrev pub invariant-loop-word : goal.invariant-loop-word
invariant-loop-word g l = ((set : List ℕ) → AreMoreCells (g.C.AddressReader.names_cells l.reader) (words_left l.rest) l.set set
    → AreCellsOf (g.C.AddressReader.names_cells l.reader) (words_left l.words) set)
    × (Any (g.C.AddressReader.no_cells l.reader) (words_left l.rest) → Any (g.C.AddressReader.no_cells l.reader) (words_left l.words))
