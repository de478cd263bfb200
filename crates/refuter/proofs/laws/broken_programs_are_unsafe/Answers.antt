use Rattle.refuter.proofs.UnsafeLemmas.{broken_is_unsafe}
use Rattle.refuter.proofs.laws.broken_programs_are_unsafe.Goals as goal

pub returns : goal.returns
returns c = broken_is_unsafe
