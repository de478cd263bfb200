use Rattle.std.proofs.Common.{◌≡◌, ◌∙◌, ◌&&◌, true, sym, ap, arith}
use Rattle.wordset.specs.Words.{Words, plus}
use Rattle.wordset.specs.Lanes.{words}
use Rattle.domain.specs.Chains.{after_steps}
use Rattle.domain.specs.ChainsInCode.{chain_of}
use Rattle.domain.proofs.LinkLemmas.{no_link_from, link_from}
use Rattle.domain.proofs.narrowing.gives_link_from.Goals as goal

pub returns-then-not-contains : goal.returns-then-not-contains
returns-then-not-contains c = no_link_from (words c.args.ac.now) (chain_of c.args.chain.now) c.args.first c.args.word c.args.link
    (ap (λ (s : Words). s c.args.first) (sym c.links.ensures) ∙ sym c.contains.ensures ∙ c.if-not-contains.true)

pub returns-then-eq : goal.returns-then-eq
returns-then-eq c =
    let begins : (chain_of c.args.chain.now).link c.args.first ≡ true = ap (λ (s : Words). s c.args.first) (sym c.links.ensures) ∙ sym c.contains.ensures ∙ c.if-not-contains.false in
    let pair : c.after_steps-made.result ≡ after_steps (chain_of c.args.chain.now).steps (plus c.args.word (chain_of c.args.chain.now).more, c.args.first) =
    c.after_steps-made.ensures ∙ ap (λ p. after_steps (chain_of c.args.chain.now).steps (p, c.args.first)) (c.add.ensures ∙ ap (λ m. plus c.args.word m) c.more.ensures) in
    c.contains-then-eq.ensures ∙ ap (λ b. b && words c.args.ac.now c.after_steps-made.result.0) (sym c.if-eq.true ∙ c.eq.ensures)
    ∙ link_from (words c.args.ac.now) (chain_of c.args.chain.now) c.args.first c.args.word c.after_steps-made.result.0 c.after_steps-made.result.1 c.args.link begins pair (omega (arith, c.index-made.ensures.same, c.index-made.ensures.small))

pub returns-else-eq : goal.returns-else-eq
returns-else-eq c =
    let begins : (chain_of c.args.chain.now).link c.args.first ≡ true = ap (λ (s : Words). s c.args.first) (sym c.links.ensures) ∙ sym c.contains.ensures ∙ c.if-not-contains.false in
    let pair : c.after_steps-made.result ≡ after_steps (chain_of c.args.chain.now).steps (plus c.args.word (chain_of c.args.chain.now).more, c.args.first) =
    c.after_steps-made.ensures ∙ ap (λ p. after_steps (chain_of c.args.chain.now).steps (p, c.args.first)) (c.add.ensures ∙ ap (λ m. plus c.args.word m) c.more.ensures) in
    c.if-eq.false ∙ ap (λ b. b && words c.args.ac.now c.after_steps-made.result.0) (sym c.if-eq.false ∙ c.eq.ensures)
    ∙ link_from (words c.args.ac.now) (chain_of c.args.chain.now) c.args.first c.args.word c.after_steps-made.result.0 c.after_steps-made.result.1 c.args.link begins pair (omega (arith, c.index-made.ensures.same, c.index-made.ensures.small))
