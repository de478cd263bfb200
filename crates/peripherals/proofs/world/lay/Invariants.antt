use Rattle.std.proofs.Common.{ℕ, ◌≡◌}
use Rattle.processor.specs.Cells.{cell_of}
use Rattle.peripherals.specs.Loading.{image_of}
use Rattle.peripherals.proofs.LoadLemmas.{laid_below}
use Rattle.peripherals.proofs.world.lay.Given as goal

abbrev pub invariant-loop-index : goal.invariant-loop-index
invariant-loop-index l = (a : ℕ) → cell_of l.memory a ≡ laid_below l.index (image_of l.image) (cell_of l.start) a
