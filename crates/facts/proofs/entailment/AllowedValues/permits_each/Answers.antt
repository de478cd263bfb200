use Rattle.std.proofs.Common.{map, refl}
use Rattle.wordset.specs.Lanes.{words}
use Rattle.wordset.specs.Links.{links_of}
use Rattle.domain.specs.ChainsInCode.{chain_of}
use Rattle.facts.proofs.ShowingLemmas.{by_accumulators, to_accumulators}
use Rattle.transfer.proofs.EntailLemmas.{not_true, not_both}
use Rattle.wordset.proofs.IterLemmas.{all_pass, given_word}
use Rattle.facts.proofs.entailment.AllowedValues.permits_each.Goals as goal

pub returns-then-not-permits_both : goal.returns-then-not-permits_both
returns-then-not-permits_both c = not_true (λ h. not_both _ c.if-not-permits_both.true c.permits_both.ensures.1
    (to_accumulators (words c.args.self.now.accumulators.now) (links_of c.args.self.now.links) (map chain_of c.args.self.now.chains.now) (chain_of c.args.chain.now) c.args.word h _ c.in-Some.ensures.steps.0.small (given_word c.loop-ac.invariant c.in-Some.ensures.steps)))

pub returns : goal.returns
returns c = (λ t. by_accumulators (words c.args.self.now.accumulators.now) (links_of c.args.self.now.links) (map chain_of c.args.self.now.chains.now) (chain_of c.args.chain.now) c.args.word (all_pass c.loop-ac.invariant c.in-None.ensures.steps), λ h. refl)
