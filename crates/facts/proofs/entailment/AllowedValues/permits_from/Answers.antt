use Rattle.std.proofs.Common.{◌∙◌, sym, ap, map}
use Rattle.wordset.specs.Words.{Words, plus}
use Rattle.wordset.specs.Lanes.{words}
use Rattle.wordset.specs.Links.{links_of}
use Rattle.domain.specs.Chains.{after_steps}
use Rattle.domain.specs.ChainsInCode.{chain_of}
use Rattle.facts.proofs.ShowingLemmas.{from_none, from_pair}
use Rattle.facts.proofs.entailment.AllowedValues.permits_from.Goals as goal

pub returns-then-not-contains : goal.returns-then-not-contains
returns-then-not-contains c = from_none (words c.args.self.now.accumulators.now) (links_of c.args.self.now.links) (map chain_of c.args.self.now.chains.now) (chain_of c.args.chain.now) c.args.word (chain_of c.args.other.now) c.args.first
    (sym (ap (λ (s : Words). s c.args.first) c.links.ensures) ∙ (sym c.contains.ensures ∙ c.if-not-contains.true))

pub returns : goal.returns
returns c = from_pair (words c.args.self.now.accumulators.now) (links_of c.args.self.now.links) (map chain_of c.args.self.now.chains.now) (chain_of c.args.chain.now) c.args.word
    c.permits.result (chain_of c.args.other.now) c.args.first c.after_steps-ac.result.0 c.after_steps-ac.result.1
    (sym (ap (λ (s : Words). s c.args.first) c.links.ensures) ∙ (sym c.contains.ensures ∙ c.if-not-contains.false))
    (c.after_steps-ac.ensures ∙ ap (λ x. after_steps (chain_of c.args.other.now).steps (x, c.args.first)) (c.add.ensures ∙ ap (plus c.args.word) c.more.ensures))
    c.permits.ensures
