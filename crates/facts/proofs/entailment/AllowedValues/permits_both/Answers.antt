use Rattle.std.proofs.Common.{map, lit<}
use Rattle.wordset.specs.Lanes.{words}
use Rattle.wordset.specs.Links.{links_of}
use Rattle.domain.specs.ChainsInCode.{chain_of}
use Rattle.facts.proofs.ShowingLemmas.{each_link, Allows}
use Rattle.transfer.proofs.EntailLemmas.{not_true, not_both}
use Rattle.facts.proofs.entailment.AllowedValues.permits_both.Goals as goal

pub returns-then-not-permits : goal.returns-then-not-permits
returns-then-not-permits c = not_true (λ h. not_both _ c.if-not-permits.true c.permits.ensures.1 (h 0 (lit< tt)))

pub returns : goal.returns
returns c = (
  λ t. each_link (words c.args.self.now.accumulators.now) (links_of c.args.self.now.links) (map chain_of c.args.self.now.chains.now) (chain_of c.args.chain.now) c.args.word (λ l. Allows (words c.args.self.now.accumulators.now) (links_of c.args.self.now.links) (map chain_of c.args.self.now.chains.now) (chain_of c.args.chain.now) c.args.word c.args.ac l) (c.permits.ensures.0 c.if-not-permits.false) (c.permits-2.ensures.0 t),
  λ h. c.permits-2.ensures.1 (h 1 (lit< tt)),
)
