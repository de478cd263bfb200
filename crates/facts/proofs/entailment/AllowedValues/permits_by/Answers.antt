use Rattle.std.proofs.Common.{map}
use Rattle.wordset.specs.Lanes.{words}
use Rattle.wordset.specs.Links.{links_of}
use Rattle.domain.specs.ChainsInCode.{chain_of}
use Rattle.facts.proofs.ShowingLemmas.{by_first_fails, by_both}
use Rattle.transfer.proofs.EntailLemmas.{not_both}
use Rattle.facts.proofs.entailment.AllowedValues.permits_by.Goals as goal

pub returns-then-not-permits_from : goal.returns-then-not-permits_from
returns-then-not-permits_from c = by_first_fails (words c.args.self.now.accumulators.now) (links_of c.args.self.now.links) (map chain_of c.args.self.now.chains.now) (chain_of c.args.chain.now) c.args.word (chain_of c.args.other.now) (not_both _ c.if-not-permits_from.true c.permits_from.ensures.1)

pub returns : goal.returns
returns c = by_both (words c.args.self.now.accumulators.now) (links_of c.args.self.now.links) (map chain_of c.args.self.now.chains.now) (chain_of c.args.chain.now) c.args.word c.permits_from-2.result (chain_of c.args.other.now) (c.permits_from.ensures.0 c.if-not-permits_from.false) c.permits_from-2.ensures
