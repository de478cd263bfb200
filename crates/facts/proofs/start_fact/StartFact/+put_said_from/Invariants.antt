use Rattle.std.proofs.Common.{◌-◌, length}
use Rattle.domain.specs.InCode.{sum_of}
use Rattle.facts.proofs.start_fact.StartFact.+put_said_from.Given as goal

abbrev pub decreases-put_said_from : goal.decreases-put_said_from
decreases-put_said_from l = length (sum_of l.sum.now) - l.start
