use Rattle.std.proofs.Common.{◌≡◌, ◌<◌, ℕ, List, drop}
use Rattle.std.specs.Prelude.{◌||◌}
use Rattle.std.specs.List.{list_any}
use Rattle.wordset.specs.Lanes.{words}
use Rattle.tape_walk.specs.Points.{has_cell}
use Rattle.tape_walk.proofs.points.PointSet.cells.Given as goal

-- what is gathered and the sets that are left are all
abbrev pub invariant-loop-cells : goal.invariant-loop-cells
invariant-loop-cells l = (a : ℕ) → a < 4096 →
    (words l.all a || list_any (λ (cells : List ℕ). words cells a) (drop l.cells-index l.cells-items)) ≡ has_cell l.self a
