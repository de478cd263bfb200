-- Outcomes as they are kept in code, and what they mean.
use Rattle.std.specs.Prelude.{List, [], ◌∷◌, ◌++◌}
use Rattle.wordset.specs.Words.{Words}
use Rattle.domain.specs.Facts.{Fact}
use Rattle.domain.specs.Brief.{brief_words}
use Rattle.domain.specs.FactInCode.{fact_in_code}
use Rattle.transfer.specs.Outcomes as said
use Rattle.transfer.specs.declared.outcomes.OutcomeKind.{OutcomeKind}
use Rattle.transfer.specs.declared.outcomes.OutcomeKind.TheVariants.{Nothing, Goes, Calls, Returns}
use Rattle.transfer.specs.declared.outcomes.FactOutcome.{FactOutcome}
use Rattle.transfer.specs.declared.outcomes.Outcomes.{Outcomes}

-- The outcome of a kind with these targets and this fact, or nothing.
abbrev pub outcome_of : OutcomeKind → Words → Fact → List said.Successor
outcome_of Nothing targets f = []
outcome_of Goes targets f = said.Goes targets f ∷ []
outcome_of Calls targets f = said.CallsTo targets f ∷ []
outcome_of Returns targets f = said.Returns f ∷ []

-- The outcome that is meant, or nothing.
abbrev pub outcome_in : FactOutcome → List said.Successor
outcome_in o = outcome_of o.kind (brief_words o.targets) (fact_in_code o.fact)

-- The outcomes that are meant, in their order.
abbrev pub outcomes_in : Outcomes → List said.Successor
outcomes_in o = outcome_in o.first ++ (outcome_in o.second ++ (outcome_in o.third ++ outcome_in o.fourth))
