use Rattle.std.proofs.Common.{ap, refl}
use Rattle.wordset.specs.Words.{has_some, has_link}
use Rattle.wordset.specs.Lanes.{words}
use Rattle.domain.specs.FactInCode.{fact_in_code}
use Rattle.transfer.proofs.ComesLemmas.{alive_by_equations}
use Rattle.transfer.proofs.outcomes.is_alive.Goals as goal

pub returns-in-OfSums : goal.returns-in-OfSums
returns-in-OfSums g c = λ p d ep ed. rw c.in-OfSums.is ep

pub returns-in-OfEquations : goal.returns-in-OfEquations
returns-in-OfEquations g c = λ p d ep ed. rw c.in-OfEquations.is (alive_by_equations p (words c.args.held.now) d (fact_in_code c.args.after.now) ep ed refl
    (ap has_some c.accumulator.ensures) (ap has_some c.mq.ensures) (ap has_link c.link.ensures) c.are_some.ensures)
