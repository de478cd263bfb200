use Rattle.std.proofs.Common.{◌≡◌, false}
use Rattle.wordset.specs.Lanes.{words}
use Rattle.wordset.proofs.IterLemmas.{Passed}
use Rattle.domain.specs.ChainsInCode.{chain_of}
use Rattle.domain.specs.Given.{gives_link}
use Rattle.domain.proofs.narrowing.gives_link.Given as goal

abbrev pub invariant-loop-word : goal.invariant-loop-word
invariant-loop-word l = Passed (λ x. gives_link (words l.ac) (chain_of l.chain) x l.link ≡ false) (words l.set) l.word-iterator
