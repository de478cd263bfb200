use Rattle.std.proofs.Common.{refl}
use Rattle.certificate.proofs.SumMadeLemmas.{whole_two}
use Rattle.certificate.proofs.Certificate.migrated.Goals as goal
use Rattle.certificate.proofs.Certificate.migrated.Goals.{in-One, in-Two, in-Three}

pub invariant_of-result : goal.invariant_of-result
invariant_of-result g c = elim c.match-version.branch [
  | in-One w ↦ rw w.version-is (whole_two c.self.inside.version c.self.inside.kept (rw w.in-One.is refl) c.self.invariant)
  | in-Two w ↦ rw w.version-is (rw w.in-Two.is at c.self.invariant)
  | in-Three w ↦ rw w.version-is (rw w.in-Three.is at c.self.invariant)
]
