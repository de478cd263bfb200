use Rattle.std.proofs.Common.{◌≡◌, ◌∙◌, ◌<◌, ◌+◌, ◌%◌, true, sym, ap, arith}
use Rattle.wordset.specs.Words.{with_word}
use Rattle.wordset.specs.Lanes.{words}
use Rattle.wordset.specs.Links.{links_of}
use Rattle.domain.specs.Given.{is_allowed_pair}
use Rattle.domain.proofs.GivenLemmas.{adds_none, adds_pair, no_accumulator, no_link, link_small}
use Rattle.domain.proofs.narrowing.add_pair.Goals as goal

pub returns-then-not-contains : goal.returns-then-not-contains
returns-then-not-contains c = adds_none (is_allowed_pair (words c.args.ac.now) (links_of c.args.links) c.args.made c.args.after) c.args.word c.args.found.now
    (λ w l. no_accumulator (words c.args.ac.now) (links_of c.args.links) c.args.made c.args.after w l (sym c.contains.ensures ∙ c.if-not-contains.true))

pub returns-then-not-contains-2 : goal.returns-then-not-contains-2
returns-then-not-contains-2 c = adds_none (is_allowed_pair (words c.args.ac.now) (links_of c.args.links) c.args.made c.args.after) c.args.word c.args.found.now
    (λ w l. no_link (words c.args.ac.now) (links_of c.args.links) c.args.made c.args.after w l (sym c.contains-2.ensures ∙ c.if-not-contains-2.true))

pub returns : goal.returns
returns c =
    let small : c.args.word < 4096 = omega (arith, c.index-word.ensures.same, c.index-word.ensures.small) in
    let below : c.args.made < 4096 = omega (arith, c.index-made.ensures.same, c.index-made.ensures.small) in
    let has : words c.args.ac.now c.args.made ≡ true = sym c.contains.ensures ∙ c.if-not-contains.false in
    let one : links_of c.args.links c.args.after ≡ true = sym c.contains-2.ensures ∙ c.if-not-contains-2.false in
    adds_pair (words c.args.ac.now) (links_of c.args.links) c.args.word c.args.made c.args.after c.args.found.now _ small below (link_small c.args.links c.args.after one) has one
    c.insert.ensures c.insert-2.ensures
    (c.insert-3.ensures ∙ ap (λ k. with_word k (words c.args.found.now.differences)) (c.add.ensures ∙ ap (λ k. (c.args.made + k) % 4096) c.negated.ensures))
    c.with-found.ensures
