use Rattle.std.proofs.Common.{◌-◌, length}
use Rattle.domain.specs.InCode.{sum_of}
use Rattle.domain.proofs.sum_fact.SumFact.+put_said_from.Given as goal

abbrev pub decreases-put_said_from : goal.decreases-put_said_from
decreases-put_said_from g l = length (sum_of l.sum.now) - l.start
