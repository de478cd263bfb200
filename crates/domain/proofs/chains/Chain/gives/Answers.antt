use Rattle.std.proofs.Common.{◌∙◌}
use Rattle.domain.specs.ChainsInCode.{chain_of, gives_from}
use Rattle.domain.proofs.ChainLemmas.{two_links, either_first, either_second}
use Rattle.domain.proofs.chains.Chain.gives.Goals as goal

pub returns-then-gives_from : goal.returns-then-gives_from
returns-then-gives_from c =
    either_first c.gives_from.result (gives_from (chain_of c.args.self.now) 1 c.args.word c.args.ac c.args.link) (gives_from (chain_of c.args.self.now) 0 c.args.word c.args.ac c.args.link) c.gives_from.ensures c.if-gives_from.true
    ∙ two_links (λ k. gives_from (chain_of c.args.self.now) k c.args.word c.args.ac c.args.link)

pub returns-else-gives_from : goal.returns-else-gives_from
returns-else-gives_from c =
    either_second c.gives_from.result c.gives_from-else-gives_from.result (gives_from (chain_of c.args.self.now) 1 c.args.word c.args.ac c.args.link) (gives_from (chain_of c.args.self.now) 0 c.args.word c.args.ac c.args.link)
    c.gives_from.ensures c.if-gives_from.false c.gives_from-else-gives_from.ensures
    ∙ two_links (λ k. gives_from (chain_of c.args.self.now) k c.args.word c.args.ac c.args.link)
