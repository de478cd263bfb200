use Rattle.wordset.specs.Words.{IsWithin}
use Rattle.wordset.specs.Lanes.{words}
use Rattle.wordset.proofs.IterLemmas.{Passed}
use Rattle.facts.specs.Conditions.{reach}
use Rattle.facts.proofs.conditions.are_in_reach.Given as goal

abbrev pub invariant-loop-site : goal.invariant-loop-site
invariant-loop-site g l = Passed (λ a. IsWithin (words l.known) (reach a)) (words l.initial.site-iterator.set.now) l.site-iterator
