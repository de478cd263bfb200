use Rattle.std.proofs.Common.{◌∙◌, sym, arith}
use Rattle.wordset.specs.Lanes.{words}
use Rattle.domain.specs.ChainsInCode.{chain_of}
use Rattle.domain.proofs.LinkLemmas.{given_from, given_from_other}
use Rattle.domain.proofs.narrowing.gives_link_of.Goals as goal

pub returns-then-gives_link_from : goal.returns-then-gives_link_from
returns-then-gives_link_from c = c.if-gives_link_from.true ∙ sym (given_from (words c.args.ac.now) (chain_of c.args.chain.now) 1 c.args.word c.args.link (omega (arith))
    (sym c.gives_link_from.ensures ∙ c.if-gives_link_from.true))

pub returns-else-gives_link_from : goal.returns-else-gives_link_from
returns-else-gives_link_from c = c.gives_link_from-else-gives_link_from.ensures
    ∙ given_from_other (words c.args.ac.now) (chain_of c.args.chain.now) c.args.word c.args.link (sym c.gives_link_from.ensures ∙ c.if-gives_link_from.false)
