use Rattle.wordset.proofs.IterLemmas.{one_fails}
use Rattle.facts.proofs.entailment.AllowedValues.permits_words.Goals as goal

pub returns-then-not-permits_word : goal.returns-then-not-permits_word
returns-then-not-permits_word c = one_fails _ c.loop-word.invariant c.in-Some.ensures.steps c.if-not-permits_word.true c.permits_word.ensures.1
