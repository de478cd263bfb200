use Rattle.std.proofs.Common.{◌∙◌, sym, map}
use Rattle.wordset.specs.Lanes.{words}
use Rattle.wordset.specs.Links.{links_of}
use Rattle.domain.specs.ChainsInCode.{chain_of}
use Rattle.facts.proofs.ShowingLemmas.{no_accumulator, no_link, gives_it, allowed_not_given, not_each_given}
use Rattle.transfer.proofs.EntailLemmas.{not_both}
use Rattle.facts.proofs.entailment.AllowedValues.permits.Goals as goal

pub returns-then-not-contains : goal.returns-then-not-contains
returns-then-not-contains c = no_accumulator (words c.args.self.now.accumulators.now) (links_of c.args.self.now.links) (map chain_of c.args.self.now.chains.now) (chain_of c.args.chain.now) c.args.word c.args.ac c.args.link (sym c.contains.ensures ∙ c.if-not-contains.true)

pub returns-then-not-contains-2 : goal.returns-then-not-contains-2
returns-then-not-contains-2 c = no_link (words c.args.self.now.accumulators.now) (links_of c.args.self.now.links) (map chain_of c.args.self.now.chains.now) (chain_of c.args.chain.now) c.args.word c.args.ac c.args.link (sym c.contains-2.ensures ∙ c.if-not-contains-2.true)

pub returns-then-gives : goal.returns-then-gives
returns-then-gives c = gives_it (words c.args.self.now.accumulators.now) (links_of c.args.self.now.links) (map chain_of c.args.self.now.chains.now) (chain_of c.args.chain.now) c.args.word c.args.ac c.args.link (sym c.gives.ensures ∙ c.if-gives.true)

pub returns-then-each_gives : goal.returns-then-each_gives
returns-then-each_gives c = allowed_not_given (words c.args.self.now.accumulators.now) (links_of c.args.self.now.links) (map chain_of c.args.self.now.chains.now) (chain_of c.args.chain.now) c.args.word c.args.ac c.args.link (sym c.contains.ensures ∙ c.if-not-contains.false) (sym c.contains-2.ensures ∙ c.if-not-contains-2.false)
    (sym c.gives.ensures ∙ c.if-gives.false) (rw (← c.cell.ensures) (c.each_gives.ensures.0 c.if-each_gives.true))

pub returns : goal.returns
returns c = not_each_given (words c.args.self.now.accumulators.now) (links_of c.args.self.now.links) (map chain_of c.args.self.now.chains.now) (chain_of c.args.chain.now) c.args.word c.args.ac c.args.link (λ each. not_both _ c.if-each_gives.false c.each_gives.ensures.1 (rw (c.cell.ensures) each))
