use Rattle.std.proofs.Common.{◌≡◌, ◌∙◌, true, sym, ap, subst}
use Rattle.wordset.specs.Words.{Words, plus}
use Rattle.wordset.specs.Lanes.{words}
use Rattle.wordset.specs.Links.{links_of}
use Rattle.domain.specs.Chains.{after_steps}
use Rattle.domain.specs.ChainsInCode.{chain_of}
use Rattle.domain.specs.Given.{gives_allowed_from, AddsGiven}
use Rattle.domain.proofs.GivenLemmas.{adds_none, none_begins, gives_pair}
use Rattle.domain.proofs.narrowing.add_given_from.Goals as goal

pub returns-then-not-contains : goal.returns-then-not-contains
returns-then-not-contains c = adds_none (gives_allowed_from (words c.args.ac.now) (links_of c.args.links) (chain_of c.args.chain.now) c.args.first c.args.word) c.args.word c.args.found.now
    (λ w l. none_begins (words c.args.ac.now) (links_of c.args.links) (chain_of c.args.chain.now) c.args.first c.args.word w l
    (ap (λ (s : Words). s c.args.first) (sym c.links.ensures) ∙ sym c.contains.ensures ∙ c.if-not-contains.true))

pub returns : goal.returns
returns c =
    let begins : (chain_of c.args.chain.now).link c.args.first ≡ true = ap (λ (s : Words). s c.args.first) (sym c.links.ensures) ∙ sym c.contains.ensures ∙ c.if-not-contains.false in
    let pair : c.after_steps-made.result ≡ after_steps (chain_of c.args.chain.now).steps (plus c.args.word (chain_of c.args.chain.now).more, c.args.first) =
    c.after_steps-made.ensures ∙ ap (λ p. after_steps (chain_of c.args.chain.now).steps (p, c.args.first)) (c.add.ensures ∙ ap (λ m. plus c.args.word m) c.more.ensures) in
    subst (λ g. AddsGiven g c.args.word c.args.found.now c.add_pair.new.found)
    (gives_pair (words c.args.ac.now) (links_of c.args.links) (chain_of c.args.chain.now) c.args.first c.args.word c.after_steps-made.result.0 c.after_steps-made.result.1 begins pair)
    c.add_pair.ensures
