use Rattle.std.proofs.Common.{◌≡◌, ℕ, false, drop}
use Rattle.wordset.specs.Lanes.{words}
use Rattle.domain.specs.Locations.{Cell}
use Rattle.facts.specs.Landing.{AllowAll}
use Rattle.facts.proofs.landing.cells_told.Given as goal

abbrev pub invariant-loop-at : goal.invariant-loop-at
invariant-loop-at g l = (a : ℕ) → words l.told a ≡ false → AllowAll (Cell a) (drop l.at (g.F.FactSource.facts l.among)) → AllowAll (Cell a) (g.F.FactSource.facts l.among)
