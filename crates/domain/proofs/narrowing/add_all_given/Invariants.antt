use Rattle.wordset.specs.Lanes.{words}
use Rattle.wordset.specs.Links.{links_of}
use Rattle.wordset.proofs.IterLemmas.{Gathered}
use Rattle.domain.specs.ChainsInCode.{chain_of}
use Rattle.domain.specs.Given.{gives_allowed, cells_given, accumulators_given, differences_given, links_given}
use Rattle.domain.proofs.narrowing.add_all_given.Given as goal

abbrev pub invariant-loop-word : goal.invariant-loop-word
invariant-loop-word l =
    Gathered (λ x v. cells_given (gives_allowed (words l.ac) (links_of l.links) (chain_of l.chain) x) x v) (words l.set) (words l.fn.found.cells) (words l.found.cells) l.word-iterator
    × Gathered (λ x v. accumulators_given (gives_allowed (words l.ac) (links_of l.links) (chain_of l.chain) x) x v) (words l.set) (words l.fn.found.accumulators) (words l.found.accumulators) l.word-iterator
    × Gathered (λ x v. differences_given (gives_allowed (words l.ac) (links_of l.links) (chain_of l.chain) x) x v) (words l.set) (words l.fn.found.differences) (words l.found.differences) l.word-iterator
    × Gathered (λ x v. links_given (gives_allowed (words l.ac) (links_of l.links) (chain_of l.chain) x) x v) (words l.set) (links_of l.fn.found.links) (links_of l.found.links) l.word-iterator
