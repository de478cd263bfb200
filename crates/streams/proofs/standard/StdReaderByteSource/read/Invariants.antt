use Rattle.std.proofs.Common.{◌≡◌, false}
use Rattle.std.specs.Io.KnownBytes.{Keeps}
use Rattle.streams.proofs.standard.StdReaderByteSource.read.Given as goal

abbrev pub invariant-loop : goal.invariant-loop
invariant-loop g l =
    Keeps (g.R.Read.remaining l.fn.self.inner) (g.R.Read.remaining l.self.inner) × (l.self.failed ≡ l.fn.self.failed) × (l.self.ended ≡ false)
