use Rattle.domain.proofs.SumLemmas.{sums_are_kept, spelled_is_so}
use Rattle.domain.proofs.laws.sums_are_kept.Goals as goal

pub returns : goal.returns
returns c = record { sums = sums_are_kept; spelled = spelled_is_so }
