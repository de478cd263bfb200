use Rattle.std.proofs.Common.{ℕ, ◌<◌, map}
use Rattle.wordset.specs.Lanes.{words}
use Rattle.wordset.specs.Links.{links_of}
use Rattle.domain.specs.ChainsInCode.{chain_of}
use Rattle.facts.specs.Entailing.{GivesIfAllowed}
use Rattle.wordset.proofs.IterLemmas.{Passed}
use Rattle.facts.proofs.entailment.AllowedValues.permits_each.Given as goal

abbrev pub invariant-loop-ac : goal.invariant-loop-ac
invariant-loop-ac l = Passed (λ w. (k : ℕ) → k < 2 → GivesIfAllowed (words l.self.accumulators.now) (links_of l.self.links) (map chain_of l.self.chains.now) (chain_of l.chain) l.word w k)
    (words l.self.accumulators.now) l.ac-iterator
