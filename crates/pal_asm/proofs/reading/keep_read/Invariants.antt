use Rattle.std.proofs.Common.{◌≡◌, length}
use Rattle.pal_text.specs.Readers.{rest}
use Rattle.pal_asm.proofs.Stepped.{Stepped}
use Rattle.pal_asm.proofs.reading.keep_read.Given as goal

abbrev pub invariant-loop-found : goal.invariant-loop-found
invariant-loop-found g l = record {
  source : l.reader.source ≡ l.part.source.now;
  stepped : Stepped l.part l.fn.before l.radix l.fn.acts l.acts l.reader.count l.reader.close;
}

abbrev pub decreases-loop-found : goal.decreases-loop-found
decreases-loop-found g l = length (rest l.part.source.now l.reader.count)
