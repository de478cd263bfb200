use Rattle.std.proofs.Common.{map}
use Rattle.wordset.specs.Lanes.{words}
use Rattle.wordset.specs.Links.{links_of}
use Rattle.domain.specs.ChainsInCode.{chain_of}
use Rattle.facts.specs.Entailing.{GivesAllowed}
use Rattle.wordset.proofs.IterLemmas.{Passed}
use Rattle.facts.proofs.entailment.AllowedValues.permits_words.Given as goal

abbrev pub invariant-loop-word : goal.invariant-loop-word
invariant-loop-word l = Passed (λ v. GivesAllowed (words l.self.accumulators.now) (links_of l.self.links) (map chain_of l.self.chains.now) (chain_of l.chain) v) (words l.cells) l.word-iterator
