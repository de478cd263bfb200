use Rattle.std.proofs.Common.{eq-eqb}
use Rattle.std.proofs.lemmas.Bool.{eqb-true}
use Rattle.domain.proofs.OffsetLemmas.{no_bit, empty_none}
use Rattle.domain.proofs.return_offsets.ReturnOffsets.is_empty.Goals as goal

pub returns : goal.returns
returns c = (
  λ t. λ o h. empty_none c.args.self.bits (eqb-true c.args.self.bits 0 t) o h,
  λ none. eq-eqb c.args.self.bits 0 (no_bit c.args.self.bits c.args.self.fits none),
)
