use Rattle.std.proofs.Common.{◌≡◌, ◌-◌, length, false}
use Rattle.certificate.specs.Parser.{CameTo}
use Rattle.certificate.proofs.pieces.read_source.Given as goal

abbrev pub invariant-loop-parser : goal.invariant-loop-parser
invariant-loop-parser g l = record {
  came : CameTo (g.R.ByteSource.remaining l.fn.source) (g.R.ByteSource.remaining l.source) l.parser;
  count : l.at ≡ l.parser.count;
  piece : length l.piece ≡ 512;
  unmarked : g.R.ByteSource.mark l.source ≡ false;
}

abbrev pub decreases-loop-parser : goal.decreases-loop-parser
decreases-loop-parser g l = 1048577 - l.at
