use Rattle.std.proofs.Common.{◌-◌, arith, eq-eqb}
use Rattle.std.specs.Prelude.{bit_and}
use Rattle.std.proofs.lemmas.Bool.{eqb-true}
use Rattle.std.proofs.lemmas.Nat.{and_le_l}
use Rattle.domain.proofs.OffsetLemmas.{within_when, when_within}
use Rattle.domain.proofs.return_offsets.ReturnOffsets.is_subset.Goals as goal

pub returns : goal.returns
returns c = (
  λ t. λ o h. within_when c.args.self.bits c.args.other.bits c.args.other.fits (eqb-true (bit_and c.args.self.bits (18446744073709551615 - c.args.other.bits)) 0 t) o h,
  λ each. eq-eqb (bit_and c.args.self.bits (18446744073709551615 - c.args.other.bits)) 0
      (when_within c.args.self.bits c.args.other.bits c.args.other.fits (omega (arith, c.args.self.fits, and_le_l c.args.self.bits (18446744073709551615 - c.args.other.bits))) each),
)
