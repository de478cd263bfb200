use Rattle.std.proofs.Common.{◌∙◌, sym}
use Rattle.wordset.specs.Lanes.{words}
use Rattle.wordset.proofs.IterLemmas.{none_yet, given_word, one_more, all_pass}
use Rattle.domain.specs.ChainsInCode.{chain_of}
use Rattle.domain.specs.Given.{gives_link}
use Rattle.domain.proofs.LinkLemmas.{some_gives, none_gives}
use Rattle.domain.proofs.narrowing.gives_link.Goals as goal

pub returns-then-gives_link_of : goal.returns-then-gives_link_of
returns-then-gives_link_of c = some_gives (words c.args.set.now) (λ x. gives_link (words c.args.ac.now) (chain_of c.args.chain.now) x c.args.link) c.in-Some.ensures.steps.0.small
    (given_word c.loop-word.invariant c.in-Some.ensures.steps) (sym c.gives_link_of.ensures ∙ c.if-gives_link_of.true)

pub loop-word-init : goal.loop-word-init
loop-word-init c = none_yet c.iter-word-items.ensures c.into_iter-word-iterator.ensures.into_iter_gives

pub loop-word-preserved : goal.loop-word-preserved
loop-word-preserved c = one_more c.loop-word.invariant c.in-Some.ensures.steps (sym c.gives_link_of.ensures ∙ c.if-gives_link_of.false)

pub returns : goal.returns
returns c = none_gives (words c.args.set.now) (λ x. gives_link (words c.args.ac.now) (chain_of c.args.chain.now) x c.args.link) (all_pass c.loop-word.invariant c.in-None.ensures.steps)
