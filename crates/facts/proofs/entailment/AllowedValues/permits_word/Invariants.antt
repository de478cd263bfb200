use Rattle.domain.specs.ChainsInCode.{chain_of}
use Rattle.facts.proofs.ShowingLemmas.{NoneBefore}
use Rattle.facts.proofs.entailment.AllowedValues.permits_word.Given as goal

abbrev pub invariant-loop-other : goal.invariant-loop-other
invariant-loop-other l = NoneBefore chain_of l.cell l.other-index l.self.chains.now
