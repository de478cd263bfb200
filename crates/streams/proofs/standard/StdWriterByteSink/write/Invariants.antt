use Rattle.std.proofs.Common.{◌≡◌}
use Rattle.std.specs.Io.KnownBytes.{Keeps}
use Rattle.streams.proofs.standard.StdWriterByteSink.write.Given as goal

abbrev pub invariant-loop : goal.invariant-loop
invariant-loop g l =
    Keeps (g.W.Write.contents l.fn.self.inner) (g.W.Write.contents l.self.inner) × (l.self.failed ≡ l.fn.self.failed)
